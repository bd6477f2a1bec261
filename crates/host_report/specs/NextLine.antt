-- The line of one directive, from what became of the modules and the calls.
use Rattle.std.specs.Prelude.{◌≡◌, ◌<◌, ◌+◌, List, Option, None, Some, length, slice_get, slice_set}
use Rattle.request_text.specs.declared.request.Directive.{Directive}
use Rattle.request_text.specs.declared.request.Directive.TheVariants.{Module, Call, Retire}
use Rattle.report_text.specs.declared.report.CallLine.{CallLine}
use Rattle.report_text.specs.declared.report.ReportLine.{ReportLine}
use Rattle.report_text.specs.declared.report.ReportLine.TheVariants as report
use Rattle.request_text.specs.declared.request.TheConstants.{MOST_CALLS}
use Rattle.run_books.specs.Collected.{HasLine}
use Rattle.run_books.specs.Entries.{Entry, entry_line}
use Rattle.host_report.specs.declared.file_report.Counts.{Counts}

-- there is an entry, or a line on the board, for this directive, after so many of each
abbrev pub HasSource : Counts → List Entry → (board : List (Option CallLine)) → Directive → Type 0
HasSource counts entries board (Module name bytes) = counts.modules < length entries
HasSource counts entries board (Call tenant place retired invocation) = HasLine board counts.calls × (counts.calls < MOST_CALLS)
HasSource counts entries board (Retire place name) = Unit {0}

-- the line shows the entry, or what stands on the board, that comes next, or the name that is retired
abbrev pub ShowsNext : Counts → List Entry → (board : List (Option CallLine)) → Directive → ReportLine → Type 0
ShowsNext counts entries board (Module name bytes) line =
    (entry : Entry) × (slice_get entries counts.modules ≡ Some entry) × (line ≡ report.Module name (entry_line entry))
ShowsNext counts entries board (Call tenant place retired invocation) line =
    (how : CallLine) × (slice_get board counts.calls ≡ Some (Some how)) × (line ≡ report.Call (counts.calls + 1) how)
ShowsNext counts entries board (Retire place name) line = line ≡ report.Retired name

-- the board after this directive, whose line is taken off if it is a call
abbrev pub board_after : Counts → (board : List (Option CallLine)) → Directive → List (Option CallLine)
board_after counts board (Module name bytes) = board
board_after counts board (Call tenant place retired invocation) = slice_set board counts.calls None
board_after counts board (Retire place name) = board

-- how many module lines and calls there are after this directive too
abbrev pub counts_after : Counts → Directive → Counts
counts_after counts (Module name bytes) = record counts { modules = counts.modules + 1 }
counts_after counts (Call tenant place retired invocation) = record counts { calls = counts.calls + 1 }
counts_after counts (Retire place name) = counts
