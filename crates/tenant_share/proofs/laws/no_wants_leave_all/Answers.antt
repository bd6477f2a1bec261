use Rattle.tenant_share.proofs.ShareLemmas.{all-left, warm-left}
use Rattle.tenant_share.proofs.laws.no_wants_leave_all.Goals as goal

pub returns-clause-slots : goal.returns-clause-slots
returns-clause-slots c = all-left

pub returns-clause-warm : goal.returns-clause-warm
returns-clause-warm c = warm-left
