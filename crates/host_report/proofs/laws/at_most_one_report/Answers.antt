use Rattle.request_text.specs.Text.{modules_of}
use Rattle.run_books.specs.Lines.{limits_in}
use Rattle.host_report.proofs.LineLemmas.{one_report}
use Rattle.host_report.proofs.laws.at_most_one_report.Goals as goal

pub returns : goal.returns
returns c = λ numbers requests a b.
    one_report c.loading_has_at_most_one_answer.ensures c.a_loaded_module_is_within_its_limits.ensures c.a_call_has_one_answer.ensures
    (limits_in requests.profile numbers) (modules_of requests.directives) requests.directives 1 a b
