use Rattle.pool_core.proofs.LiveSeats.{moves_by_one}
use Rattle.pool_core.proofs.laws.counts_move_by_one.Goals as goal

pub returns : goal.returns
returns c = moves_by_one
