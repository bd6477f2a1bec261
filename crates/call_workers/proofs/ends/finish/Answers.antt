use Rattle.std.proofs.Common.{sym, arith}
use Rattle.call_jobs.proofs.EndLemmas.{nothing_left}
use Rattle.call_workers.proofs.ends.finish.Goals as goal

pub unreachable-requires : goal.unreachable-requires
unreachable-requires g c =
    let joined = c.in_ok-entries.ensures.entries in
    let next = rw c.in-Some.is at c.next.ensures.order in
    let w = c.requires.whole in
    let s = joined.share in
    let ends = rw (sym joined.put) at c.requires.ends in
    nothing_left _ _ _ _ c.requires.some ends joined.ended (next (omega arith))

pub join_all-requires-clause-callers : goal.join_all-requires-clause-callers
join_all-requires-clause-callers g c = c.requires.callers

pub join_all-requires-clause-done : goal.join_all-requires-clause-done
join_all-requires-clause-done g c = c.requires.done

pub returns-in_err-entries-clause-callers : goal.returns-in_err-entries-clause-callers
returns-in_err-entries-clause-callers g c = c.join_all.ensures.callers

pub returns-clause-callers : goal.returns-clause-callers
returns-clause-callers g c = c.join_all.ensures.callers

pub returns-clause-known : goal.returns-clause-known
returns-clause-known g c = c.in_ok-entries.ensures.known

pub returns-clause-given : goal.returns-clause-given
returns-clause-given g c = c.in_ok-entries.ensures.given
