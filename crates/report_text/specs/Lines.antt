-- The lines of a report. Each ends in LF.
use Rattle.std.specs.Prelude.{ℕ, List, [], ◌∷◌, ◌++◌, codes, flat_map, Some, None}
use Rattle.std.specs.Fmt.{decimal, signed_decimal}
use Rattle.std.specs.Int.{cast_signed, w32, w64}
use Rattle.hex.specs.Hex.{encode_lower}
use Rattle.wasm_values.specs.declared.outcome.Val.{Val}
use Rattle.wasm_values.specs.declared.outcome.Val.TheVariants.{I32, I64}
use Rattle.wasm_values.specs.declared.outcome.Outcome.{Outcome}
use Rattle.wasm_values.specs.declared.outcome.Outcome.TheVariants as outcome
use Rattle.wasm_values.specs.declared.outcome.TrapKind.{TrapKind}
use Rattle.wasm_values.specs.declared.outcome.TrapKind.TheVariants as trap
use Rattle.report_text.specs.declared.report.ModuleLine.{ModuleLine}
use Rattle.report_text.specs.declared.report.ModuleLine.TheVariants as loading
use Rattle.report_text.specs.declared.report.CallLine.{CallLine}
use Rattle.report_text.specs.declared.report.CallLine.TheVariants as call
use Rattle.report_text.specs.declared.report.ReportLine.{ReportLine}
use Rattle.report_text.specs.declared.report.ReportLine.TheVariants as report

-- ---- how the loading of a module went

abbrev pub loading_text : ModuleLine → List ℕ
loading_text loading.Accepted = codes "ok"
loading_text loading.Malformed = codes "refused malformed"
loading_text loading.Unsupported = codes "refused unsupported"
loading_text loading.Invalid = codes "refused invalid"
loading_text loading.Limit = codes "refused limit"
loading_text loading.Segment = codes "refused segment"

-- ---- how a call went

-- a value with its type, in signed decimal
abbrev pub value_text : Val → List ℕ
value_text (I32 n) = codes "i32:" ++ signed_decimal (cast_signed w32 n)
value_text (I64 n) = codes "i64:" ++ signed_decimal (cast_signed w64 n)

abbrev pub trap_text : TrapKind → List ℕ
trap_text trap.Unreachable = codes "unreachable"
trap_text trap.Memory = codes "memory"
trap_text trap.Element = codes "element"
trap_text trap.Uninit = codes "uninit"
trap_text trap.Signature = codes "signature"
trap_text trap.Divide = codes "divide"
trap_text trap.Overflow = codes "overflow"
trap_text trap.Exhausted = codes "exhausted"

abbrev pub outcome_text : Outcome → List ℕ
outcome_text (outcome.Done None) = codes "ok"
outcome_text (outcome.Done (Some value)) = codes "ok " ++ value_text value
outcome_text (outcome.Trap kind) = codes "trap " ++ trap_text kind
outcome_text outcome.Fuel = codes "fuel"

-- bytes as hex digits of lower case, two a byte, or `-` for none
abbrev pub bytes_text : List ℕ → List ℕ
bytes_text [] = codes "-"
bytes_text (b ∷ rest) = encode_lower (b ∷ rest)

abbrev pub call_text : CallLine → List ℕ
call_text (call.Done end) = outcome_text end
call_text (call.Sent value bytes) = outcome_text (outcome.Done value) ++ codes " out:" ++ bytes_text bytes
call_text call.NoModule = codes "refused module"
call_text call.Retired = codes "refused retired"
call_text call.NoExport = codes "refused export"
call_text call.BadArgs = codes "refused args"

-- ---- the report

-- `module NAME ok` or `module NAME refused R`; `retire NAME done`; the number of a call, a space, and how it went
unfoldable pub line_text : ReportLine → List ℕ
line_text (report.Module name line) = codes "module " ++ name ++ codes " " ++ loading_text line ++ codes "\n"
line_text (report.Retired name) = codes "retire " ++ name ++ codes " done\n"
line_text (report.Call number line) = decimal number ++ codes " " ++ call_text line ++ codes "\n"

-- the text of a report: its lines one after the other
abbrev pub report_text : List ReportLine → List ℕ
report_text lines = flat_map line_text lines
