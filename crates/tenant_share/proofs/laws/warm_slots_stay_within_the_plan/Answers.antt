use Rattle.tenant_share.proofs.ShareLemmas.{warm-within}
use Rattle.tenant_share.proofs.laws.warm_slots_stay_within_the_plan.Goals as goal

pub returns : goal.returns
returns c = warm-within c.warm_slots_stay_within.ensures
