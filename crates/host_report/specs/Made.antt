-- How the lines of a report come about.
use Rattle.std.specs.Prelude.{◌≡◌, ℕ, List, [], ◌∷◌, flat_map}
use Rattle.std.specs.declared.marker.Brand.{Brand}
use Rattle.module_store.specs.declared.naming.Naming.{Ghosts}
use Rattle.module_store.specs.declared.opened.Opened.{Opened}
use Rattle.pool_limits.specs.declared.numbers.Numbers.{Numbers}
use Rattle.request_text.specs.Text.{Asked}
use Rattle.report_text.specs.declared.report.CallLine.{CallLine}
use Rattle.report_text.specs.declared.report.ReportLine.{ReportLine}
use Rattle.report_text.specs.declared.report.ReportLine.TheVariants as report
use Rattle.call_rounds.specs.declared.modes.Made.{Made}
use Rattle.call_rounds.specs.Rounds.{AreClosedBooks}
use Rattle.call_rounds.specs.Runs.{IsMade, books_of}
use Rattle.host_report.specs.Answers.{lines_on}

-- how the call went that a line shows, if it is the line of a call
abbrev pub call_shown : ReportLine → List CallLine
call_shown (report.Module name how) = []
call_shown (report.Call number how) = how ∷ []
call_shown (report.Retired name) = []

-- how the calls went that these lines show, in order
abbrev pub calls_shown : List ReportLine → List CallLine
calls_shown lines = flat_map call_shown lines

-- All calls of this file were made, in slices of this length where that is how they are made, and the lines show what then stood on the board of the calls.
pub record AreOfRun {N : Type 0} (G : Ghosts N) (config : Numbers) (asked : Asked) (slice : ℕ) (lines : List ReportLine) : Type 0 where
  pub run : Made N G
  pub made : IsMade config asked slice run
  pub closed : AreClosedBooks config asked (books_of run)
  pub shown : calls_shown lines ≡ lines_on (books_of run).board

-- the name that a store has, once it is opened
abbrev pub name_of : Opened → Ghosts Brand
name_of opened = record { shelves = opened.modules; config = opened.config; most = opened.most }

-- so it was, in a store that was opened under this configuration
abbrev pub WereMade : Numbers → Asked → (slice : ℕ) → List ReportLine → Type 0
WereMade config asked slice lines = (opened : Opened) × (opened.config ≡ config) × AreOfRun (name_of opened) opened.config asked slice lines
