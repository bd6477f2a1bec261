use Rattle.host_run.proofs.TenantLemmas.{same_written}
use Rattle.host_run.proofs.laws.same_bytes.Goals as goal

pub returns : goal.returns
returns c = same_written c.each_call_has_its_line.ensures c.a_call_has_one_line.ensures
