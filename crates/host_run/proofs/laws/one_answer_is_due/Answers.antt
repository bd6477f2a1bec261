use Rattle.host_run.proofs.AnswerLemmas.{one_due}
use Rattle.host_run.proofs.laws.one_answer_is_due.Goals as goal

pub returns : goal.returns
returns c = one_due c.at_most_one_report.ensures
