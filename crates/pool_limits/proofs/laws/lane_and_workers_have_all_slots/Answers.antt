use Rattle.pool_limits.proofs.ShareLemmas.{all_slots}
use Rattle.pool_limits.proofs.laws.lane_and_workers_have_all_slots.Goals as goal

pub returns : goal.returns
returns c = all_slots
