use Rattle.pool_core.proofs.LeastRule.{refusal_is_least}
use Rattle.pool_core.proofs.laws.refusals_are_least.Goals as goal

pub returns : goal.returns
returns c = refusal_is_least
