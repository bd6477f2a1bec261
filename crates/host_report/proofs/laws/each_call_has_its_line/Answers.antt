use Rattle.request_text.specs.Text.{modules_of}
use Rattle.run_books.specs.Lines.{limits_in}
use Rattle.host_report.proofs.LineLemmas.{line_at}
use Rattle.host_report.proofs.laws.each_call_has_its_line.Goals as goal

pub returns : goal.returns
returns c = λ numbers requests lines at tenant place retired bytes invocation told call there.
    line_at (limits_in requests.profile numbers) (modules_of requests.directives) bytes retired invocation requests.directives at 1 tenant place lines told call there
