use Rattle.pool_model.proofs.Tenants.{warm-slots-stay-within}
use Rattle.pool_model.proofs.laws.warm_slots_stay_within.Goals as goal

pub returns : goal.returns
returns c = warm-slots-stay-within
