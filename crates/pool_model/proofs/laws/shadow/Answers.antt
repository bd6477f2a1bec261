use Rattle.pool_model.proofs.Shadows.{always-shadow}
use Rattle.pool_model.proofs.laws.shadow.Goals as goal

pub returns : goal.returns
returns c = always-shadow
