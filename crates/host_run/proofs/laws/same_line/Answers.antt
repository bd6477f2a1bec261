use Rattle.host_run.proofs.TenantLemmas.{same_told}
use Rattle.host_run.proofs.laws.same_line.Goals as goal

pub returns : goal.returns
returns c = same_told c.each_call_has_its_line.ensures c.a_call_has_one_line.ensures
