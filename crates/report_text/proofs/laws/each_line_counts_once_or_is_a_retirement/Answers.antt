use Rattle.report_text.proofs.SummaryLemmas.{all_counted}
use Rattle.report_text.proofs.laws.each_line_counts_once_or_is_a_retirement.Goals as goal

pub returns : goal.returns
returns c = all_counted
