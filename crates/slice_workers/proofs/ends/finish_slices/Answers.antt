use Rattle.std.proofs.Common.{◌∙◌, ap, arith, sym}
use Rattle.call_jobs.specs.Entries.{zeros}
use Rattle.call_jobs.proofs.EndLemmas.{nothing_left}
use Rattle.call_jobs.proofs.EntryLemmas.{answers_all}
use Rattle.slice_workers.proofs.EndLemmas.{joined_whole}
use Rattle.slice_workers.proofs.ends.finish_slices.Goals as goal

pub unreachable-requires : goal.unreachable-requires
unreachable-requires g c =
    let sliced = c.requires.sliced in
    let whole = joined_whole g.N.Naming.config c.args.shared.now.jobs c.args.shared.now.calls.items c.args.own c.args.sliced.own c.join_pass.new.pass c.args.workers c.args.sliced.entries.items sliced c.requires.none c.join_pass.ensures.both in
    let next = rw c.in-Some.is at c.next.ensures.order in
    let w = c.requires.whole in
    let s = whole.share in
    let ends = rw (sym whole.put) at c.requires.ends in
    nothing_left _ _ _ _ c.requires.some ends (ap zeros whole.given ∙ sliced.ended) (next (omega arith))

pub returns-clause-answers : goal.returns-clause-answers
returns-clause-answers g c =
    let sliced = c.requires.sliced in
    let whole = joined_whole g.N.Naming.config c.args.shared.now.jobs c.args.shared.now.calls.items c.args.own c.args.sliced.own c.join_pass.new.pass c.args.workers c.args.sliced.entries.items sliced c.requires.none c.join_pass.ensures.both in
    let w = c.requires.whole in
    let s = whole.share in
    answers_all g.N.Naming.config _ _ _ _ _ (rw (whole.put, whole.given) at c.in-None.ensures.all (omega arith)) sliced.all sliced.entries_are
