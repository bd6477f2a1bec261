use Rattle.host_report.proofs.LineLemmas.{one_module_line}
use Rattle.host_report.proofs.laws.same_module_line.Goals as goal

pub returns : goal.returns
returns c = one_module_line c.loading_has_at_most_one_answer.ensures
