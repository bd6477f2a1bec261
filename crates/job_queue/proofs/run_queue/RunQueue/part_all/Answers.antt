use Rattle.std.proofs.Common.{◌≡◌, ap, arith}
use Rattle.job_queue.specs.declared.run_queue.RunAccount.{RunAccount}
use Rattle.job_queue.proofs.RunPartings.{one_more_run_pass}
use Rattle.job_queue.proofs.run_queue.RunQueue.part_all.Goals as goal

pub part-requires-clause-own : goal.part-requires-clause-own
part-requires-clause-own g c = c.loop.invariant.own

pub part-requires-clause-share : goal.part-requires-clause-share
part-requires-clause-share g c =
    let left = ap (λ (a : RunAccount _). a.share) c.loop.invariant.left in
    let some = c.requires.share in
    let within = c.loop-test.true in omega arith

pub returns-in_err-push-clause-own : goal.returns-in_err-push-clause-own
returns-in_err-push-clause-own g c = c.part.ensures.own

pub loop-preserved : goal.loop-preserved
loop-preserved g c =
    rw c.in_ok-push.ensures.items (one_more_run_pass _ _ _ _ _ _ _ c.loop.invariant c.part.ensures.own c.part.ensures.left c.part.ensures.parted)

pub returns-clause-own : goal.returns-clause-own
returns-clause-own g c = c.loop.invariant.own

pub returns-clause-left : goal.returns-clause-left
returns-clause-left g c =
    let end = c.loop.auto.counter-end in
    let test = c.loop-test.false in
    let all : c.loop.counter ≡ c.args.others = omega arith in rw (← all) c.loop.invariant.left

pub returns-clause-many : goal.returns-clause-many
returns-clause-many g c =
    let count = c.loop.invariant.count in
    let end = c.loop.auto.counter-end in
    let test = c.loop-test.false in omega arith

pub returns-clause-passes : goal.returns-clause-passes
returns-clause-passes g c = c.loop.invariant.new
