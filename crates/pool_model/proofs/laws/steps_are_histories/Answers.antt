use Rattle.pool_model.proofs.Histories.{steps-are-histories}
use Rattle.pool_model.proofs.laws.steps_are_histories.Goals as goal

pub returns : goal.returns
returns c = steps-are-histories
