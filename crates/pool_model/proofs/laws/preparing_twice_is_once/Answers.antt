use Rattle.pool_model.proofs.Turns.{preparing-twice}
use Rattle.pool_model.proofs.laws.preparing_twice_is_once.Goals as goal

pub returns : goal.returns
returns c = preparing-twice
