use Rattle.std.proofs.Common.{false, arith, rules}
use Rattle.std.proofs.lemmas.List.Elements.{All-pop, All-push}
use Rattle.job_queue.specs.Passes.{IsNewPassOf}
use Rattle.tenant_share.specs.Retiring.{CallerKnows}
use Rattle.tenant_share.specs.Tenants.{IsCaller}
use Rattle.call_workers.specs.Crews.{IsNewWorker, WorkerKnows}
use Rattle.call_workers.proofs.rounds.staff.Goals as goal

pub loop-own-preserved : goal.loop-own-preserved
loop-own-preserved g c =
    let i = c.loop-own.invariant in
    let owns = All-pop (IsNewPassOf false c.args.jobs.now) _ _ _ c.pop.ensures.items i.takers in
    let callers = All-pop (IsCaller c.args.shared.now.share) _ _ _ c.pop-in-Some.ensures.items i.callers in
    let own = rw c.in-Some.is at owns.1 in
    let caller = rw c.unwrap-caller.ensures at callers.1 in record {
      takers = owns.0;
      callers = callers.0;
      enough = search rules;
      count = search rules;
      rest = search rules;
      room = search rules;
      still = λ tag knew. (All-pop (CallerKnows tag) _ _ _ c.pop-in-Some.ensures.items (i.still tag knew)).0;
      known = λ tag knew.
          let knows = rw c.unwrap-caller.ensures at (All-pop (CallerKnows tag) _ _ _ c.pop-in-Some.ensures.items (i.still tag knew)).1 in
          rw c.push_reserved.ensures.items (All-push (WorkerKnows tag) _ _ (i.known tag knew) knows);
      workers = rw c.push_reserved.ensures.items (All-push (IsNewWorker c.args.shared.now.share c.args.jobs.now) _ _ i.workers (record { caller = caller; own = own }));
    }

pub returns-clause-callers : goal.returns-clause-callers
returns-clause-callers g c = c.loop-own.invariant.callers

pub returns-clause-still : goal.returns-clause-still
returns-clause-still g c = c.loop-own.invariant.still

pub returns-clause-known : goal.returns-clause-known
returns-clause-known g c = c.loop-own.invariant.known

pub returns-clause-workers : goal.returns-clause-workers
returns-clause-workers g c = c.loop-own.invariant.workers

pub loop-own-init : goal.loop-own-init
loop-own-init g c = record {
  takers = c.requires.takers;
  callers = c.requires.callers;
  enough = c.requires.enough;
  count = search rules;
  rest = search rules;
  room = search rules;
  still = λ tag knew. knew;
  known = search rules;
  workers = search rules;
}

pub returns-in_err-workers-clause-callers : goal.returns-in_err-workers-clause-callers
returns-in_err-workers-clause-callers g c = c.requires.callers

pub returns-in_err-workers-clause-still : goal.returns-in_err-workers-clause-still
returns-in_err-workers-clause-still g c = λ tag knew. knew

pub push_reserved-requires : goal.push_reserved-requires
push_reserved-requires g c =
    let count = c.loop-own.invariant.count in
    let room = c.loop-own.invariant.room in
    let len = c.in-Some.ensures.len in omega arith
