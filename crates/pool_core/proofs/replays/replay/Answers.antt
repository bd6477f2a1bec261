use Rattle.std.proofs.Common.{◌≡◌, ap, ◌∙◌, subst, take}
use Rattle.std.proofs.lemmas.List.{take_all}
use Rattle.std.proofs.lemmas.Result.{err_from_is_err_and}
use Rattle.pool_core.specs.PoolCore.{opening_core}
use Rattle.pool_core.specs.Runs.{core_after_all, AllAllowed}
use Rattle.pool_core.proofs.RunLemmas.{fault_at, one_more}
use Rattle.pool_core.proofs.replays.replay.Goals as goal

pub loop-at-preserved : goal.loop-at-preserved
loop-at-preserved c = let s = c.in_ok-step_at.ensures.ok in let i = c.loop-at.invariant in
    let n = one_more (opening_core c.args.slots c.args.warm c.args.seats) c.args.events.now c.loop-at.at _ c.loop-at.core c.step_at.new.core c.loop-at-test.true i.allowed i.is s.0 s.1 in record { allowed = n.0; is = n.1 }

pub returns : goal.returns
returns c = let first = opening_core c.args.slots c.args.warm c.args.seats in let i = c.loop-at.invariant in
    let e : take c.loop-at.at c.args.events.now ≡ c.args.events.now = take_all c.loop-at.at c.args.events.now c.loop-at-test.false in
    record { ok = (subst (AllAllowed first) e i.allowed, i.is ∙ ap (core_after_all first) e); err = tt }

pub returns-in_err-step_at : goal.returns-in_err-step_at
returns-in_err-step_at c = let i = c.loop-at.invariant in let p = err_from_is_err_and c.from_residual-in_err-step_at.result c.from_residual-in_err-step_at.ensures.1 in
    rw (p.1, p.2) (record {
      ok = tt;
      err = fault_at (opening_core c.args.slots c.args.warm c.args.seats) c.args.events.now c.loop-at.at _ c.loop-at.core _ c.loop-at-test.true i.allowed i.is c.in_err-step_at.ensures.err;
    })
