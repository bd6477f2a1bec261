use Rattle.std.proofs.Common.{◌≡◌, ap, arith, length, rules}
use Rattle.std.proofs.lemmas.List.Elements.{All-pop, All-push}
use Rattle.tenant_share.specs.Retiring.{CallerKnows}
use Rattle.tenant_share.specs.Tenants.{IsCaller}
use Rattle.call_workers.specs.Crews.{DoneKnows, HasEnded, entries_made}
use Rattle.call_workers.proofs.CrewLemmas.{given_all, given_more, joined_more}
use Rattle.call_workers.proofs.ends.join_all.Goals as goal

pub loop-one-preserved : goal.loop-one-preserved
loop-one-preserved g c =
    let i = c.loop-one.invariant in
    let rest = All-pop (HasEnded g.N.Naming.config c.args.shared.now c.args.jobs.now) _ _ _ c.pop.ensures.items i.done in
    let one : HasEnded g.N.Naming.config c.args.shared.now c.args.jobs.now c.in-Some.one = rw c.in-Some.is at rest.1 in
    let taken = rw c.in_ok-made.was at one.taken in record {
      fewer = let len = c.in-Some.ensures.len in let most = i.fewer in omega arith;
      joined = joined_more _ _ _ _ _ _ _ _ _ _ _ _ _ i.joined taken c.join_pass.ensures.own c.join_pass.ensures.both
          (let len = c.in-Some.ensures.len in let most = i.fewer in omega arith) c.in_ok-put_behind.ensures.ok;
      given = given_more _ _ _ c.in-Some.one _ _ _ _ c.pop.ensures.items c.in-Some.is (ap entries_made c.in_ok-made.was) c.in_ok-put_behind.ensures.ok i.given;
      callers = rw (c.push_reserved.ensures.items, c.reserve.ensures.items) (All-push (IsCaller c.args.shared.now.share) _ _ i.callers one.caller);
      back = search rules;
      known = λ tag knew ended.
          let last : DoneKnows tag c.in-Some.one = rw c.in-Some.is at (All-pop (DoneKnows tag) _ _ _ c.pop.ensures.items (i.knowing tag ended)).1 in
          let knows = rw c.in_ok-made.was at last in
          rw (c.push_reserved.ensures.items, c.reserve.ensures.items) (All-push (CallerKnows tag) _ _ (i.known tag knew ended) knows);
      knowing = λ tag ended. (All-pop (DoneKnows tag) _ _ _ c.pop.ensures.items (i.knowing tag ended)).0;
      done = rest.0;
    }

pub returns-clause-given : goal.returns-clause-given
returns-clause-given g c =
    let none = c.in_default.ensures.cases.0 in
    let empty : length c.loop-one.done.items ≡ 0 = omega arith in
    given_all c.loop-one.done.items _ _ empty c.loop-one.invariant.given

pub join_pass-requires-clause-own : goal.join_pass-requires-clause-own
join_pass-requires-clause-own g c = c.loop-one.invariant.joined.own

pub returns-in_err-made-clause-callers : goal.returns-in_err-made-clause-callers
returns-in_err-made-clause-callers g c = c.loop-one.invariant.callers

pub returns-in_err-put_behind-clause-callers : goal.returns-in_err-put_behind-clause-callers
returns-in_err-put_behind-clause-callers g c = c.loop-one.invariant.callers

pub returns-clause-callers : goal.returns-clause-callers
returns-clause-callers g c = c.loop-one.invariant.callers

pub returns-clause-known : goal.returns-clause-known
returns-clause-known g c = c.loop-one.invariant.known

pub loop-one-init : goal.loop-one-init
loop-one-init g c = record {
  fewer = search rules;
  joined = search rules;
  given = search rules;
  callers = c.requires.callers;
  back = search rules;
  known = λ tag knew ended. knew;
  knowing = λ tag ended. ended;
  done = c.requires.done;
}

pub join_pass-requires-clause-other : goal.join_pass-requires-clause-other
join_pass-requires-clause-other g c = (rw c.in-Some.is at (All-pop (HasEnded g.N.Naming.config c.args.shared.now c.args.jobs.now) _ _ _ c.pop.ensures.items c.loop-one.invariant.done).1).own
