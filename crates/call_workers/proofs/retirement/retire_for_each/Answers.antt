use Rattle.std.proofs.Common.{◌≡◌, ◌<◌, ◌++◌, length, take, drop, arith}
use Rattle.std.proofs.lemmas.Grind.{common_steps}
use Rattle.std.proofs.lemmas.List.Elements.{All-set}
use Rattle.std.proofs.lemmas.Option.{slice_get-get_or}
use Rattle.tenant_share.specs.Retiring.{RetiredForAll}
use Rattle.tenant_share.specs.Tenants.{IsCaller}
use Rattle.call_workers.proofs.ChangeLemmas.{all_changed, one_more_changed}
use Rattle.call_workers.proofs.KnowLemmas.{all_know, all_still_know}
use Rattle.call_workers.proofs.retirement.retire_for_each.Goals as goal

pub loop-caller-preserved : goal.loop-caller-preserved
loop-caller-preserved g c =
    let i = c.loop-caller.invariant in
    let e = c.retire_for_all.ensures in
    let t = c.loop-caller-test.true in
    let a = c.loop-caller.auto.caller-items in
    let within : c.loop-caller.caller-index < length c.loop-caller.caller-items = omega arith in
    let there = slice_get-get_or c.loop-caller.caller-items c.loop-caller.caller-index c.caller-item.result within in record {
      callers = All-set (IsCaller c.args.shared.now.share) c.loop-caller.caller-items c.loop-caller.caller-index c.retire_for_all.new.caller e.own i.callers;
      retired = one_more_changed (RetiredForAll c.args.shared.now.share c.args.module.now) c.loop-caller.caller-index c.args.callers.now.items c.loop-caller.caller-items _ c.retire_for_all.new.caller i.retired there e.retired;
    }

pub returns : goal.returns
returns g c =
    let a = c.loop-caller.auto.caller-items in
    let t = c.loop-caller-test.false in
    let e = c.deref_mut-caller-items.ensures in
    let share = c.args.shared.now.share in
    let was = c.args.callers.now.items in
    let now = c.loop-caller.caller-items in
    let callers = c.loop-caller.invariant.callers in
    let all = all_changed (RetiredForAll share c.args.module.now) c.loop-caller.caller-index was now (omega arith) c.loop-caller.invariant.retired in
    let whole : take c.args.callers.now.len (now ++ drop (length now) was) ≡ now = grind (arith, common_steps) in
    rw whole (record {
      callers = callers;
      known = all_know share c.args.module.now was now c.requires.callers callers all;
      still = λ tag knew. all_still_know share c.args.module.now tag was now c.requires.callers callers all knew;
      retired = all;
    })
