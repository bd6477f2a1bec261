-- Lines that come about by no run of a file.
use Rattle.std.proofs.Common.{◌≡◌, ℕ, true, List, [], ◌∷◌, Option, Ok, Err, refl, sym, subst}
use Rattle.std.specs.Prelude.{Result}
use Rattle.wasm_values.specs.declared.outcome.Outcome.{Outcome}
use Rattle.wasm_values.specs.declared.profile.Profile.TheVariants.{Two}
use Rattle.wasm_types.specs.Tree.{ModuleTree}
use Rattle.wasm_spec.specs.Loading.{Refusal}
use Rattle.pool_limits.specs.declared.numbers.Numbers.{Numbers}
use Rattle.request_calls.specs.declared.invocation.Invocation.{Invocation}
use Rattle.request_text.specs.declared.request.Directive.{Directive}
use Rattle.request_text.specs.declared.request.Directive.TheVariants.{Module, Call, Retire}
use Rattle.request_text.specs.Text.{Asked, call_count, modules_of}
use Rattle.report_text.specs.declared.report.CallLine.{CallLine}
use Rattle.report_text.specs.declared.report.CallLine.TheVariants as call_line
use Rattle.report_text.specs.declared.report.ReportLine.TheVariants as report
use Rattle.run_books.specs.Books.{HasLines}
use Rattle.run_books.specs.Lines.{Limits, ShowsCall, limits_in}
use Rattle.host_report.specs.Answers.{AreAnswers, lines_on}
use Rattle.host_report.specs.Made.{WereMade}
use Rattle.host_report.proofs.AnswerLemmas.{all_told, lines_all}

-- a file that has a module, retires it, and calls it then
abbrev retired_call : (bytes : List ℕ) → Invocation → Asked
retired_call bytes invocation = record { profile = Two; whole = true; wants = []; directives = Module [] bytes ∷ Retire 0 [] ∷ Call 0 0 true invocation ∷ [] }

abbrev Lines : Type 0
Lines = List (Option CallLine)

-- a call of a retired module has not ended
no_end : (limits : Limits) (loaded : Result ModuleTree Refusal) (invocation : Invocation) (end : Outcome) → ShowsCall limits true loaded invocation (call_line.Done end) → ⊥
no_end limits (Ok m) invocation end shows = cc
no_end limits (Err refusal) invocation end shows = cc

module _ (bytes : List ℕ) (invocation : Invocation) where
  abbrev all : List Directive
  all = (retired_call bytes invocation).directives

  -- what stands on a board that has the line of its call
  answered : (limits : Limits) (last : ℕ) (board : Lines) (calls : List CallLine) → HasLines limits all (call_count all) last board → calls ≡ lines_on board → AreAnswers limits (modules_of all) all calls
  answered limits last board calls lines shown =
      let told = all_told limits (modules_of all) all board (lines_all limits all (call_count all) last board refl lines) in
      subst (λ (calls : List CallLine). AreAnswers limits (modules_of all) all calls) (sym shown) told.right

  -- it is not shown to have ended
  pub retired_call_ends : (numbers : Numbers) (slice : ℕ) (end : Outcome)
      → WereMade numbers (retired_call bytes invocation) slice (report.Call 1 (call_line.Done end) ∷ []) → ⊥
  retired_call_ends numbers slice end were =
      let limits = limits_in Two were.0.config in
      let run = were.2 in
      let goes = (answered limits _ _ (call_line.Done end ∷ []) run.closed.lines run.shown).0.goes in
      no_end limits goes.loaded invocation end goes.shows

  -- nor is it left out
  pub call_left_out : (numbers : Numbers) (slice : ℕ) → WereMade numbers (retired_call bytes invocation) slice [] → ⊥
  call_left_out numbers slice were = answered (limits_in Two were.0.config) _ _ [] were.2.closed.lines were.2.shown
