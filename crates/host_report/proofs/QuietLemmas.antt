-- A report whose lines show no bytes has the summary of the report.
use Rattle.std.proofs.Common.{◌≡◌, ◌∙◌, ℕ, ◌+◌, List, [], ◌∷◌, ap, map, refl, subst, sym}
use Rattle.std.specs.Str.{bytes_eq}
use Rattle.pool_limits.specs.declared.numbers.Numbers.{Numbers}
use Rattle.request_text.specs.declared.request.Directive.{Directive}
use Rattle.request_text.specs.declared.request.Directive.TheVariants.{Module, Call, Retire}
use Rattle.request_text.specs.Quiet.{quiet, quiet_directive}
use Rattle.request_text.specs.Text.{Asked, modules_of}
use Rattle.request_text.proofs.QuietLemmas.{same_modules}
use Rattle.report_text.specs.declared.report.ReportLine.{ReportLine}
use Rattle.report_text.specs.declared.report.ReportLine.TheVariants as report
use Rattle.report_text.specs.Summary.{counts_under, summary_text}
use Rattle.report_text.proofs.SummaryLemmas.{CountAlike, alike-cons, same_summary}
use Rattle.run_books.specs.Lines.{Limits, limits_in}
use Rattle.run_books.proofs.QuietLemmas.{line_aloud}
use Rattle.host_report.specs.Report.{AreLines, IsReport}

-- the lines of these directives, of which as many count under each label as of others
record CountAs (limits : Limits) (modules : List (List ℕ)) (number : ℕ) (ds : List Directive) (others : List ReportLine) : Type 0 where
  lines : List ReportLine
  are : AreLines limits modules number ds lines
  alike : CountAlike lines others

lines_aloud : (limits : Limits) (modules : List (List ℕ)) (number : ℕ) (ds : List Directive) (lines : List ReportLine) → AreLines limits modules number (map quiet_directive ds) lines
    → CountAs limits modules number ds lines
lines_aloud limits modules number [] lines are = record { lines = lines; are = are; alike = λ label. refl }
lines_aloud limits modules number (d ∷ ds) [] are = absurd are
lines_aloud limits modules number (Module name bytes ∷ ds) (line ∷ lines) are =
    let rest = lines_aloud limits modules number ds lines are.1 in
    record { lines = line ∷ rest.lines; are = (are.0, rest.are); alike = alike-cons line line rest.lines lines (λ label. refl) rest.alike }
lines_aloud limits modules number (Retire place name ∷ ds) (line ∷ lines) are =
    let rest = lines_aloud limits modules number ds lines are.1 in
    record { lines = line ∷ rest.lines; are = (are.0, rest.are); alike = alike-cons line line rest.lines lines (λ label. refl) rest.alike }
lines_aloud limits modules number (Call tenant place retired invocation ∷ ds) (line ∷ lines) are =
    let rest = lines_aloud limits modules (number + 1) ds lines are.1 in
    let (quiet_how, goes, is) = are.0 in
    let aloud = line_aloud limits goes.bytes retired invocation quiet_how goes.goes in
    let call = report.Call number aloud.how in
    record {
      lines = call ∷ rest.lines;
      are = ((aloud.how, record { bytes = goes.bytes; there = goes.there; goes = aloud.goes }, refl), rest.are);
      alike = alike-cons call line rest.lines lines (λ label. ap (λ (l : List ℕ). bytes_eq l label) aloud.label ∙ sym (ap (counts_under label) is)) rest.alike;
    }

pub report_aloud : (numbers : Numbers) (requests : Asked) (lines : List ReportLine) → IsReport numbers (quiet requests) lines
    → (all : List ReportLine) × IsReport numbers requests all × (summary_text all ≡ summary_text lines)
report_aloud numbers requests lines is =
    let limits = limits_in requests.profile numbers in
    let ds = requests.directives in
    let are : AreLines limits (modules_of ds) 1 (map quiet_directive ds) lines =
    subst (λ (modules : List (List ℕ)). AreLines limits modules 1 (map quiet_directive ds) lines) (same_modules ds) is in
    let shown = lines_aloud limits (modules_of ds) 1 ds lines are in
    (shown.lines, shown.are, same_summary shown.lines lines shown.alike)
