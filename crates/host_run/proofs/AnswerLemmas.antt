-- What a run writes is what is due, and at most one answer is.
use Rattle.std.proofs.Common.{◌≡◌, ℕ, List, Bool, true, false, Option, Some, None, Ok, Err, refl, sym, ap, ◌∙◌}
use Rattle.std.specs.Prelude.{Result}
use Rattle.pool_limits.specs.declared.numbers.Numbers.{Numbers}
use Rattle.report_text.specs.declared.report.ReportLine.{ReportLine}
use Rattle.request_text.specs.Text.{Asked, FileRefusal, requests_of}
use Rattle.command_line.specs.Words.{command_of}
use Rattle.command_line.specs.declared.words.Command.{Command}
use Rattle.command_line.specs.declared.words.Command.TheVariants.{Make, Run}
use Rattle.host_report.specs.Report.{IsReport}
use Rattle.host_report.proofs.QuietLemmas.{report_aloud}
use Rattle.host_run.specs.Made.{asked_in}
use Rattle.host_run.specs.Serving.{DueAnswer, IsDue, IsFileAnswer, IsReported, lines_text}

-- the report on what is asked of a run is written as the report on what the file asks for
pub written_as_due : (numbers : Numbers) (summary : Bool) (requests : Asked) (lines : List ReportLine) (answer : DueAnswer) → answer.status ≡ 0
    → IsReport numbers (asked_in summary requests) lines → answer.text ≡ lines_text summary lines → IsReported numbers summary requests answer
written_as_due numbers true requests lines answer status is text =
    let (all, report, same) = report_aloud numbers requests lines is in
    record { status = status; lines = all; report = report; text = text ∙ sym same }
written_as_due numbers false requests lines answer status is text = record { status = status; lines = lines; report = is; text = text }

-- what a file asks for has at most one report
abbrev pub ReportsOnce : Type 0
ReportsOnce = (numbers : Numbers) (requests : Asked) (a b : List ReportLine) → IsReport numbers requests a → IsReport numbers requests b → a ≡ b

module _ (one_report : ReportsOnce) where
  abbrev answer_of : ℕ → List ℕ → DueAnswer
  answer_of status text = record { status = status; text = text }

  answered_once : (numbers : Numbers) (summary : Bool) (requests : Result Asked FileRefusal) (bytes : List ℕ) (a b : DueAnswer) → requests_of numbers bytes ≡ requests
      → IsFileAnswer numbers summary bytes a → IsFileAnswer numbers summary bytes b → a ≡ b
  answered_once numbers summary (Ok requests) bytes a b is h g =
      let first = rw is at h in
      let second = rw is at g in
      let lines = one_report numbers requests first.lines second.lines first.report second.report in
      ap (λ (s : ℕ). answer_of s a.text) (first.status ∙ sym second.status)
      ∙ ap (λ (t : List ℕ). answer_of b.status t) (first.text ∙ ap (λ (ls : List ReportLine). lines_text summary ls) lines ∙ sym second.text)
  answered_once numbers summary (Err why) bytes a b is h g =
      let first = rw is at h in
      let second = rw is at g in
      first ∙ sym second

  due_once : (given : Option Command) (words : List (List ℕ)) (bytes : List ℕ) (a b : DueAnswer) → command_of words ≡ given → IsDue words bytes a → IsDue words bytes b → a ≡ b
  due_once None words bytes a b is h g = let first = rw is at h in let second = rw is at g in first ∙ sym second
  due_once (Some (Run numbers summary slice)) words bytes a b is h g = answered_once numbers summary (requests_of numbers bytes) bytes a b refl (rw is at h) (rw is at g)
  due_once (Some (Make seed count)) words bytes a b is h g = let first = rw is at h in let second = rw is at g in first ∙ sym second

  pub one_due : (words : List (List ℕ)) (bytes : List ℕ) (a b : DueAnswer) → IsDue words bytes a → IsDue words bytes b → a ≡ b
  one_due words bytes a b h g = due_once (command_of words) words bytes a b refl h g
