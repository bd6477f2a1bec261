use Rattle.std.proofs.Common.{arith, sym, ◌∙◌}
use Rattle.pool_limits.proofs.LimitLemmas.{over_from-within, over_from-end, over_from-start}
use Rattle.pool_limits.proofs.config.frames_within.Goals as goal

pub loop-place-preserved : goal.loop-place-preserved
loop-place-preserved c = over_from-within c.args.first c.args.limit c.args.needs.now c.loop-place.place (omega arith) c.in_ok-within.ensures.ok ∙ c.loop-place.invariant

pub returns-clause-ok : goal.returns-clause-ok
returns-clause-ok c = sym c.loop-place.invariant ∙ over_from-end c.args.first c.args.limit c.args.needs.now c.loop-place.place (omega arith)

pub loop-place-init : goal.loop-place-init
loop-place-init c = over_from-start c.args.first c.args.limit c.args.needs.now
