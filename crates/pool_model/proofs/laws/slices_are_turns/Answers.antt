use Rattle.pool_model.proofs.Slices.{slices-are-turns}
use Rattle.pool_model.proofs.laws.slices_are_turns.Goals as goal

pub returns : goal.returns
returns c = slices-are-turns
