-- The report on a request file: one line for each directive, in file order.
use Rattle.std.specs.Prelude.{◌≡◌, ℕ, ◌+◌, if◌then◌else◌, List, [], ◌∷◌, Result}
use Rattle.wasm_types.specs.Tree.{ModuleTree}
use Rattle.wasm_spec.specs.Loading.{Loads, Refusal}
use Rattle.pool_limits.specs.declared.numbers.Numbers.{Numbers}
use Rattle.request_text.specs.declared.request.Directive.{Directive}
use Rattle.request_text.specs.declared.request.Directive.TheVariants.{Module, Call, Retire}
use Rattle.report_text.specs.declared.report.ModuleLine.{ModuleLine}
use Rattle.report_text.specs.declared.report.CallLine.{CallLine}
use Rattle.report_text.specs.declared.report.ReportLine.{ReportLine}
use Rattle.report_text.specs.declared.report.ReportLine.TheVariants as report
use Rattle.request_text.specs.Text.{Asked, is_call, modules_of}
use Rattle.run_books.specs.Lines.{GoesAs, Limits, limits_in, loading_line}

-- how the loading of these bytes goes
pub record IsModuleLine (limits : Limits) (bytes : List ℕ) (line : ModuleLine) : Type 0 where
  pub loaded : Result ModuleTree Refusal
  pub loads : Loads limits.profile bytes limits.load loaded
  pub shows : line ≡ loading_line loaded

-- the line of a directive, which has this number if it is a call
abbrev pub IsLine : Limits → (modules : List (List ℕ)) → (number : ℕ) → Directive → ReportLine → Type 0
IsLine limits modules number (Module name bytes) line =
    (how : ModuleLine) × IsModuleLine limits bytes how × (line ≡ report.Module name how)
IsLine limits modules number (Call tenant place retired invocation) line =
    (how : CallLine) × GoesAs limits modules place retired invocation how × (line ≡ report.Call number how)
IsLine limits modules number (Retire place name) line = line ≡ report.Retired name

-- the lines of these directives, one of each, the first call among which has this number
abbrev pub AreLines : Limits → (modules : List (List ℕ)) → (number : ℕ) → List Directive → List ReportLine → Type 0
AreLines limits modules number [] lines = lines ≡ []
AreLines limits modules number (directive ∷ requests) [] = ⊥
AreLines limits modules number (directive ∷ requests) (line ∷ lines) =
    IsLine limits modules number directive line
    × AreLines limits modules (if is_call directive then number + 1 else number) requests lines

-- the report on a request file that asks for this; calls are numbered from 1
abbrev pub IsReport : Numbers → Asked → List ReportLine → Type 0
IsReport numbers requests lines = AreLines (limits_in requests.profile numbers) (modules_of requests.directives) 1 requests.directives lines
