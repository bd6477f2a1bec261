use Rattle.request_text.proofs.PlanLemmas.{accepted_plan}
use Rattle.request_text.proofs.laws.accepted_wants_have_a_plan.Goals as goal

pub returns : goal.returns
returns c = accepted_plan
