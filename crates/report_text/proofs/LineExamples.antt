-- Lines that were written by hand.
use Rattle.std.proofs.Common.{◌≡◌, ℕ, List, [], ◌∷◌, ◌++◌, refl, codes, Some, None}
use Rattle.std.specs.Fmt.{digits}
use Rattle.hex.specs.Hex.{encode_with}
use Rattle.wasm_values.specs.declared.outcome.Val.TheVariants.{I32, I64}
use Rattle.wasm_values.specs.declared.outcome.Outcome.TheVariants as outcome
use Rattle.wasm_values.specs.declared.outcome.TrapKind.{TrapKind}
use Rattle.wasm_values.specs.declared.outcome.TrapKind.TheVariants as trap
use Rattle.report_text.specs.declared.report.ModuleLine.TheVariants as loading
use Rattle.report_text.specs.declared.report.CallLine.TheVariants as call
use Rattle.report_text.specs.declared.report.ReportLine.TheVariants as report
use Rattle.report_text.specs.Lines.{line_text, report_text}
use Rattle.report_text.specs.Summary.{count_line, summary_text}

modules_are : report_text (report.Module (codes "a") loading.Accepted ∷ report.Module (codes "b") loading.Malformed ∷ report.Module (codes "c") loading.Unsupported ∷ [])
    ≡ codes "module a ok\nmodule b refused malformed\nmodule c refused unsupported\n"
unfolding line_text
modules_are = refl

other_modules_are : report_text (report.Module (codes "d") loading.Invalid ∷ report.Module (codes "e") loading.Limit ∷ report.Module (codes "f") loading.Segment ∷ [])
    ≡ codes "module d refused invalid\nmodule e refused limit\nmodule f refused segment\n"
unfolding line_text
other_modules_are = refl

results_are : report_text (report.Call 1 (call.Done (outcome.Done None)) ∷ report.Call 20 (call.Done (outcome.Done (Some (I32 4294967295)))) ∷ report.Call 300 (call.Done (outcome.Done (Some (I64 5)))) ∷ [])
    ≡ codes "1 ok\n20 ok i32:-1\n300 ok i64:5\n"
unfolding line_text digits
results_are = refl

retirements_are : report_text (report.Retired (codes "a") ∷ report.Retired (codes "bc") ∷ [])
    ≡ codes "retire a done\nretire bc done\n"
unfolding line_text
retirements_are = refl

other_ends_are : report_text (report.Call 1 (call.Done outcome.Fuel) ∷ report.Call 2 call.NoModule ∷ report.Call 3 call.Retired ∷ report.Call 4 call.NoExport ∷ report.Call 5 call.BadArgs ∷ [])
    ≡ codes "1 fuel\n2 refused module\n3 refused retired\n4 refused export\n5 refused args\n"
unfolding line_text digits
other_ends_are = refl

sent_are : report_text (report.Call 1 (call.Sent (Some (I32 3)) (97 ∷ 0 ∷ 255 ∷ [])) ∷ report.Call 2 (call.Sent None []) ∷ report.Call 3 (call.Sent None (10 ∷ [])) ∷ [])
    ≡ codes "1 ok i32:3 out:6100ff\n2 ok out:-\n3 ok out:0a\n"
unfolding line_text digits encode_with
sent_are = refl

abbrev trapped : (kind : TrapKind) → List ℕ
trapped kind = line_text (report.Call 7 (call.Done (outcome.Trap kind)))

traps_are : trapped trap.Unreachable ++ trapped trap.Memory ++ trapped trap.Element ++ trapped trap.Uninit ++ trapped trap.Signature ++ trapped trap.Divide ++ trapped trap.Overflow ++ trapped trap.Exhausted
    ≡ codes "7 trap unreachable\n7 trap memory\n7 trap element\n7 trap uninit\n7 trap signature\n7 trap divide\n7 trap overflow\n7 trap exhausted\n"
unfolding line_text digits
traps_are = refl

-- a report with a line of each kind
some_report : summary_text (report.Module [] loading.Accepted ∷ report.Module [] loading.Limit ∷ report.Module [] loading.Segment ∷ report.Call 1 (call.Done (outcome.Done None))
    ∷ report.Call 2 (call.Done (outcome.Trap trap.Divide)) ∷ report.Call 3 (call.Done outcome.Fuel) ∷ report.Call 4 call.NoModule ∷ report.Call 5 call.BadArgs
    ∷ report.Call 6 (call.Sent None (7 ∷ [])) ∷ report.Retired [] ∷ report.Call 7 call.Retired ∷ report.Retired (codes "calls ok") ∷ [])
    ≡ codes "modules ok 1\nmodules refused 2\ncalls ok 2\ncalls trap 1\ncalls fuel 1\ncalls refused 3\n"
unfolding count_line digits
some_report = refl
