-- What a run of the program owes.
use Rattle.std.specs.Prelude.{◌≡◌, ◌⊎◌, ℕ, Bool, true, false, List, codes, map, if◌then◌else◌, MatchResult, Some, None}
use Rattle.std.specs.Borrow.{Bor}
use Rattle.std.specs.declared.option.Option.{Option}
use Rattle.std.specs.Io.KnownBytes.{Appends}
use Rattle.host_run.specs.Streams.{AppendsPart}
use Rattle.host_report.specs.Report.{IsReport}
use Rattle.report_text.specs.declared.report.ReportLine.{ReportLine}
use Rattle.report_text.specs.Lines.{report_text}
use Rattle.request_text.specs.Refusal.{refusal_line}
use Rattle.request_text.specs.Text.{Asked, requests_of}
use Rattle.report_text.specs.Summary.{summary_text}
use Rattle.load_maker.specs.Load.{made_file}
use Rattle.pool_limits.specs.declared.numbers.Numbers.{Numbers}
use Rattle.command_line.specs.Words.{command_of}
use Rattle.command_line.specs.declared.words.Command.{Command}
use Rattle.command_line.specs.declared.words.Command.TheVariants.{Make, Run}
use Rattle.host_run.specs.declared.due.RunOutput.{RunOutput}
use Rattle.host_run.specs.Text.{bytes_of}

-- the texts of the words of a command line
abbrev pub texts_of : List (Bor (List ℕ)) → List (List ℕ)
texts_of words = map (λ w. w.now) words

-- a status, and the text that is due before it
pub record DueAnswer : Type 0 where
  pub status : ℕ
  pub text : List ℕ

-- words that are not accepted are refused by this line, with status 2
abbrev pub refused_words : DueAnswer
refused_words = record { status = 2; text = codes "refused words\n" }

-- what a run writes on the lines of a report: their text, or their summary
abbrev pub lines_text : (summary : Bool) → List ReportLine → List ℕ
lines_text summary lines = if summary then summary_text lines else report_text lines

-- the answer is what a run writes on a report, with status 0
pub record IsReported (numbers : Numbers) (summary : Bool) (requests : Asked) (answer : DueAnswer) : Type 0 where
  pub status : answer.status ≡ 0
  pub lines : List ReportLine
  pub report : IsReport numbers requests lines
  pub text : answer.text ≡ lines_text summary lines

-- what a request file is answered: the report on what it asks for, or, with status 2, the line that tells why it is refused
abbrev pub IsFileAnswer : Numbers → (summary : Bool) → List ℕ → DueAnswer → Type 0
IsFileAnswer numbers summary bytes answer = MatchResult (requests_of numbers bytes)
    (λ requests. IsReported numbers summary requests answer)
    (λ refusal. answer ≡ record { status = 2; text = refusal_line refusal })

-- a load is written with status 0
abbrev pub load_of : (seed count : ℕ) → DueAnswer
load_of seed count = record { status = 0; text = made_file seed count }

-- what is due for a command, if there is one, and all bytes of the source, whatever the slices of a run
abbrev pub IsOwed : Option Command → List ℕ → DueAnswer → Type 0
IsOwed None bytes answer = answer ≡ refused_words
IsOwed (Some (Run numbers summary slice)) bytes answer = IsFileAnswer numbers summary bytes answer
IsOwed (Some (Make seed count)) bytes answer = answer ≡ load_of seed count

-- what is due for the words of the command line and all bytes of the source
abbrev pub IsDue : List (List ℕ) → List ℕ → DueAnswer → Type 0
IsDue words bytes answer = IsOwed (command_of words) bytes answer

-- a run is asked for: nothing else has the source read
abbrev pub reads_source : Option Command → Bool
reads_source (Some (Run numbers summary slice)) = true
reads_source asked = false

abbrev pub due_answer : RunOutput → DueAnswer
due_answer due = record { status = due.status; text = bytes_of due.text }

-- Where a run ends with 0 or 2, that is the status of a due answer whose whole text was written; where it ends with 4,
-- a first part of a due text was written.
pub record Delivers (IsOwed : DueAnswer → Type 0) (before after : Option (List ℕ)) (status : ℕ) : Type 0 where
  pub whole : (status ≡ 0) ⊎ (status ≡ 2)
      → (answer : DueAnswer) × IsOwed answer × (status ≡ answer.status) × Appends before after answer.text
  pub part : status ≡ 4 → (answer : DueAnswer) × IsOwed answer × AppendsPart before after answer.text

-- the statuses of a run
abbrev pub IsStatus : ℕ → Type 0
IsStatus n = (n ≡ 0) ⊎ ((n ≡ 2) ⊎ ((n ≡ 3) ⊎ ((n ≡ 4) ⊎ (n ≡ 5))))
