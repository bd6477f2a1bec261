use Rattle.tenant_share.proofs.ShareLemmas.{beside-lane, planned}
use Rattle.tenant_share.proofs.laws.shares_add_up.Goals as goal

pub returns-clause-plan : goal.returns-clause-plan
returns-clause-plan c = planned

pub returns-clause-lane : goal.returns-clause-lane
returns-clause-lane c = beside-lane
