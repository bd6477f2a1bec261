use Rattle.host_report.proofs.LineLemmas.{one_call_line}
use Rattle.host_report.proofs.laws.a_call_has_one_line.Goals as goal

pub returns : goal.returns
returns c = one_call_line c.loading_has_at_most_one_answer.ensures c.a_loaded_module_is_within_its_limits.ensures c.a_call_has_one_answer.ensures
