use Rattle.std.proofs.Common.{◌≡◌, ap, arith}
use Rattle.job_queue.specs.declared.accounts.Account.{Account}
use Rattle.job_queue.proofs.Partings.{one_more}
use Rattle.job_queue.proofs.jobs.Jobs.part_all.Goals as goal

pub part-requires-clause-own : goal.part-requires-clause-own
part-requires-clause-own g c = c.loop.invariant.own

pub part-requires-clause-share : goal.part-requires-clause-share
part-requires-clause-share g c =
    let left = ap (λ (a : Account _). a.share) c.loop.invariant.left in
    let some = c.requires.share in
    let within = c.loop-test.true in omega arith

pub returns-in_err-push-clause-own : goal.returns-in_err-push-clause-own
returns-in_err-push-clause-own g c = c.part.ensures.own

pub loop-preserved : goal.loop-preserved
loop-preserved g c =
    rw c.in_ok-push.ensures.items (one_more _ _ _ _ _ _ _ c.loop.invariant c.part.ensures.own c.part.ensures.left c.part.ensures.parted)

pub returns-clause-own : goal.returns-clause-own
returns-clause-own g c = c.loop.invariant.own

pub returns-clause-left : goal.returns-clause-left
returns-clause-left g c =
    let end = c.loop.auto.counter-end in
    let test = c.loop-test.false in
    let all : c.loop.counter ≡ c.args.workers = omega arith in rw (← all) c.loop.invariant.left

pub returns-clause-workers : goal.returns-clause-workers
returns-clause-workers g c =
    let count = c.loop.invariant.count in
    let end = c.loop.auto.counter-end in
    let test = c.loop-test.false in omega arith

pub returns-clause-takers : goal.returns-clause-takers
returns-clause-takers g c = c.loop.invariant.new
