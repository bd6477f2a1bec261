use Rattle.std.proofs.Common.{drop}
use Rattle.host_report.specs.Answers.{lines_on}
use Rattle.run_books.specs.Lines.{limits_in}
use Rattle.host_report.proofs.ReportLemmas.{LinesLeft}
use Rattle.host_report.proofs.file_report.lines.Given as goal

abbrev pub invariant-loop-directive : goal.invariant-loop-directive
invariant-loop-directive g l =
    LinesLeft (limits_in l.fn.requests.profile g.N.Naming.config) l.fn.requests.directives (drop l.directive-index l.fn.requests.directives) l.entries (lines_on l.initial.board) l.board l.counts l.lines.items
