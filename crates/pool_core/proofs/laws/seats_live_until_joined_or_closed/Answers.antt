use Rattle.pool_core.proofs.LiveSeats.{leaves_live}
use Rattle.pool_core.proofs.laws.seats_live_until_joined_or_closed.Goals as goal

pub returns : goal.returns
returns c = leaves_live
