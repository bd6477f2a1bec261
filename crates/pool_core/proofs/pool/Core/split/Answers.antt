use Rattle.std.proofs.Common.{sym}
use Rattle.pool_core.specs.declared.events.Event.TheVariants.{Split}
use Rattle.pool_core.proofs.LawfulSteps.{lawful_after_is}
use Rattle.pool_core.proofs.pool.Core.split.Goals as goal

pub invariant_of-self : goal.invariant_of-self
invariant_of-self c = lawful_after_is _ _ _ (Split c.args.seat c.args.new) c.self.invariant (sym c.self.view_is) c.requires (cc)
