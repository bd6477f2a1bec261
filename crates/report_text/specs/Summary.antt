-- The summary of a report: for each of six labels, how many lines of the report count under it.
use Rattle.std.specs.Prelude.{ℕ, Bool, true, false, List, [], ◌∷◌, ◌++◌, codes, count_by, flat_map}
use Rattle.std.specs.Fmt.{decimal}
use Rattle.std.specs.Str.{bytes_eq}
use Rattle.wasm_values.specs.declared.outcome.Outcome.TheVariants as outcome
use Rattle.report_text.specs.declared.report.ModuleLine.{ModuleLine}
use Rattle.report_text.specs.declared.report.ModuleLine.TheVariants as loading
use Rattle.report_text.specs.declared.report.CallLine.{CallLine}
use Rattle.report_text.specs.declared.report.CallLine.TheVariants as call
use Rattle.report_text.specs.declared.report.ReportLine.{ReportLine}
use Rattle.report_text.specs.declared.report.ReportLine.TheVariants as report

-- the label under which the line of a module counts
abbrev pub module_label : ModuleLine → List ℕ
module_label loading.Accepted = codes "modules ok"
module_label _ = codes "modules refused"

-- the label under which the line of a call counts
abbrev pub call_label : CallLine → List ℕ
call_label (call.Done (outcome.Done value)) = codes "calls ok"
call_label (call.Sent value bytes) = codes "calls ok"
call_label (call.Done (outcome.Trap kind)) = codes "calls trap"
call_label (call.Done outcome.Fuel) = codes "calls fuel"
call_label _ = codes "calls refused"

-- whether a line of a report counts under a label; that of a retirement counts under none
abbrev pub counts_under : (label : List ℕ) → ReportLine → Bool
counts_under label (report.Module name line) = bytes_eq (module_label line) label
counts_under label (report.Retired name) = false
counts_under label (report.Call number line) = bytes_eq (call_label line) label

-- the labels, in the order of their lines
abbrev pub labels : List (List ℕ)
labels = codes "modules ok" ∷ codes "modules refused" ∷ codes "calls ok" ∷ codes "calls trap" ∷ codes "calls fuel" ∷ codes "calls refused" ∷ []

-- how many of the report's lines count under a label
abbrev pub count_of : List ReportLine → List ℕ → ℕ
count_of lines label = count_by (counts_under label) lines

-- a label, a space, and how many lines count under it
unfoldable pub count_line : List ReportLine → List ℕ → List ℕ
count_line lines label = label ++ codes " " ++ decimal (count_of lines label) ++ codes "\n"

-- a line for each label
abbrev pub summary_text : List ReportLine → List ℕ
summary_text lines = flat_map (λ label. count_line lines label) labels

-- the line tells of a retirement
abbrev pub is_retirement : ReportLine → Bool
is_retirement (report.Module name line) = false
is_retirement (report.Retired name) = true
is_retirement (report.Call number line) = false
