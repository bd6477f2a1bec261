-- How what a run writes came about.
use Rattle.std.specs.Prelude.{◌≡◌, ℕ, Bool, List, Option, IfOk, if◌then◌else◌}
use Rattle.std.specs.Io.KnownBytes.{Consumes}
use Rattle.pool_limits.specs.declared.numbers.Numbers.{Numbers}
use Rattle.request_text.specs.Quiet.{quiet}
use Rattle.request_text.specs.Text.{Asked, requests_of}
use Rattle.report_text.specs.declared.report.ReportLine.{ReportLine}
use Rattle.command_line.specs.declared.words.Command.{Command}
use Rattle.command_line.specs.declared.words.Command.TheVariants.{Make, Run}
use Rattle.host_report.specs.Made.{WereMade}
use Rattle.host_run.specs.Serving.{DueAnswer, lines_text}

-- what is asked of a run: where it writes a summary no line shows bytes, so that it keeps none of an answer
abbrev pub asked_in : (summary : Bool) → Asked → Asked
asked_in summary requests = if summary then quiet requests else requests

-- the answer is what a run writes on lines that came about so: all calls of the file were made, in slices of this length where that is how they are made
pub record IsOfRun (numbers : Numbers) (summary : Bool) (slice : ℕ) (requests : Asked) (answer : DueAnswer) : Type 0 where
  pub lines : List ReportLine
  pub made : WereMade numbers (asked_in summary requests) slice lines
  pub text : answer.text ≡ lines_text summary lines

-- where a file is accepted, so did what it is answered
abbrev pub FileWasMade : Numbers → (summary : Bool) → (slice : ℕ) → List ℕ → DueAnswer → Type 0
FileWasMade numbers summary slice bytes answer = IfOk (requests_of numbers bytes) (λ requests. IsOfRun numbers summary slice requests answer)

-- what a command to run a file is answered came about so, for the bytes that were taken from the source
abbrev pub WasMade : Command → (before after : Option (List ℕ)) → DueAnswer → Type 0
WasMade (Run numbers summary slice) before after answer = (bytes : List ℕ) × Consumes before after bytes × FileWasMade numbers summary slice bytes answer
WasMade (Make seed count) before after answer = Unit {0}
