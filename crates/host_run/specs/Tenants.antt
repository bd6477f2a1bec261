-- Request files that have a call in common, and differ in anything else.
use Rattle.std.specs.Prelude.{◌≡◌, ℕ, ◌+◌, ◌++◌, Bool, false, List, Ok, Some, codes, drop, slice_get, take}
use Rattle.std.specs.Fmt.{decimal}
use Rattle.request_calls.specs.declared.invocation.Invocation.{Invocation}
use Rattle.request_text.specs.declared.request.Directive.TheVariants.{Call}
use Rattle.report_text.specs.declared.report.CallLine.{CallLine}
use Rattle.report_text.specs.declared.report.ReportLine.{ReportLine}
use Rattle.report_text.specs.declared.report.ReportLine.TheVariants as report
use Rattle.report_text.specs.Lines.{report_text}
use Rattle.request_text.specs.Text.{Asked, call_count, modules_of, requests_of}
use Rattle.pool_limits.specs.declared.numbers.Numbers.{Numbers}
use Rattle.command_line.specs.Words.{command_of}
use Rattle.command_line.specs.declared.words.Command.TheVariants.{Run}
use Rattle.host_report.specs.Report.{IsReport}
use Rattle.host_run.specs.Serving.{lines_text}

-- the words ask for a report under a configuration of these numbers, a request file of these bytes asks for this, and this
-- is the report on it
pub record HasReport (words : List (List ℕ)) (numbers : Numbers) (bytes : List ℕ) (requests : Asked) (lines : List ReportLine) : Type 0 where
  pub slice : ℕ
  pub command : command_of words ≡ Some (Run numbers false slice)
  pub asked : requests_of numbers bytes ≡ Ok requests
  pub report : IsReport numbers requests lines

-- the directive at this place is a call whose name stands for a module of these bytes; `retired` is whether a line before it retires that name
pub record CallsAt (requests : Asked) (at : ℕ) (bytes : List ℕ) (retired : Bool) (invocation : Invocation) : Type 0 where
  pub tenant : ℕ
  pub place : ℕ
  pub call : slice_get requests.directives at ≡ Some (Call tenant place retired invocation)
  pub module_bytes : slice_get (modules_of requests.directives) place ≡ Some bytes

-- the line at this place tells how the call went, after the call's number: one more than the calls before it
abbrev pub TellsAt : Asked → List ReportLine → ℕ → CallLine → Type 0
TellsAt requests lines at how = slice_get lines at ≡ Some (report.Call (1 + call_count (take at requests.directives)) how)

-- the line of the call at this place, before whose end the number is followed by a space and these bytes
abbrev pub call_line_at : Asked → ℕ → (told : List ℕ) → List ℕ
call_line_at requests at told = decimal (1 + call_count (take at requests.directives)) ++ codes " " ++ told ++ codes "\n"

-- what is written on these lines is the text of those before this place, the line of the call, and the text of the rest
abbrev pub WritesAt : Asked → List ReportLine → ℕ → (told : List ℕ) → Type 0
WritesAt requests lines at told =
    lines_text false lines ≡ report_text (take at lines) ++ call_line_at requests at told ++ report_text (drop (at + 1) lines)
