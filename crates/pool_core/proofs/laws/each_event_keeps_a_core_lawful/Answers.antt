use Rattle.pool_core.proofs.LawfulSteps.{lawful_after}
use Rattle.pool_core.proofs.laws.each_event_keeps_a_core_lawful.Goals as goal

pub returns : goal.returns
returns c = lawful_after
