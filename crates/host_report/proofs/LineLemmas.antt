-- Each line is decided, and so is a report; each call has its line.
use Rattle.wasm_types.specs.declared.limits.RunLimits.{RunLimits}
use Rattle.wasm_types.specs.declared.limits.LoadLimits.{LoadLimits}
use Rattle.std.proofs.Common.{◌≡◌, ℕ, zero, suc, ◌+◌, Bool, true, false, List, [], ◌∷◌, Some, Ok, Err, take, sym, ap, ◌∙◌, subst, arith}
use Rattle.std.specs.Prelude.{Result, if◌then◌else◌, slice_get}
use Rattle.wasm_values.specs.declared.outcome.Val.{Val}
use Rattle.request_calls.specs.declared.invocation.Invocation.{Invocation}
use Rattle.wasm_values.specs.declared.profile.Profile.{Profile}
use Rattle.wasm_types.specs.Tree.{ModuleTree}
use Rattle.wasm_spec.specs.Loading.{Loads, Refusal}
use Rattle.wasm_spec.specs.Validity.{IsValid}
use Rattle.wasm_spec.specs.Within.{IsWithin}
use Rattle.pool_host.specs.declared.lane.LaneAnswer.{LaneAnswer}
use Rattle.pool_host.specs.CallWords.{IsAnswer, is_retired}
use Rattle.request_text.specs.declared.request.Directive.{Directive}
use Rattle.request_text.specs.declared.request.Directive.TheVariants.{Module, Call, Retire}
use Rattle.report_text.specs.declared.report.CallLine.{CallLine}
use Rattle.report_text.specs.declared.report.ModuleLine.{ModuleLine}
use Rattle.report_text.specs.declared.report.ReportLine.{ReportLine}
use Rattle.report_text.specs.declared.report.ReportLine.TheVariants as report
use Rattle.request_calls.specs.Invocations.{sent_by, shown_of}
use Rattle.request_text.specs.Text.{call_count, is_call}
use Rattle.host_report.specs.Report.{AreLines, IsLine, IsModuleLine}
use Rattle.run_books.specs.Collected.{answer_line}
use Rattle.run_books.specs.Lines.{IsCallLine, Limits, ShowsCall, loading_line}
use Rattle.run_books.proofs.CallLemmas.{as_answered}
use Rattle.run_books.proofs.PlaceLemmas.{call_count-call, call_count-module, call_count-retire}

-- the laws of the layers below: bytes load to one answer, what loads is within its limits, and a call of a valid module has one answer
abbrev pub LoadsOnce : Type 0
LoadsOnce = (profile : Profile) (bytes : List ℕ) (limits : LoadLimits) (a b : Result ModuleTree Refusal) → Loads profile bytes limits a → Loads profile bytes limits b → a ≡ b

abbrev pub LoadsWithin : Type 0
LoadsWithin = (profile : Profile) (bytes : List ℕ) (limits : LoadLimits) (m : ModuleTree) → Loads profile bytes limits (Ok m) → IsWithin limits m

abbrev pub AnswersOnce : Type 0
AnswersOnce = (m : ModuleTree) (limits : RunLimits) (export : List ℕ) (args : List Val) (request : List ℕ) (fuel : ℕ) (a b : LaneAnswer) (x y : List ℕ) → IsValid m
    → IsAnswer m limits export args request fuel a x → IsAnswer m limits export args request fuel b y → is_retired a ≡ is_retired b → (a ≡ b) × (x ≡ y)

pub one_module_line : LoadsOnce → (limits : Limits) (bytes : List ℕ) (a b : ModuleLine) → IsModuleLine limits bytes a → IsModuleLine limits bytes b → a ≡ b
one_module_line one_load limits bytes a b h g =
    let same : h.loaded ≡ g.loaded = one_load limits.profile bytes limits.load h.loaded g.loaded h.loads g.loads in
    h.shows ∙ ap loading_line same ∙ sym g.shows

module _ (one_load : LoadsOnce) (within : LoadsWithin) (one_answer : AnswersOnce) where
  shown_once : (limits : Limits) (bytes : List ℕ) (retired : Bool) (invocation : Invocation) (loaded : Result ModuleTree Refusal) (a b : CallLine)
      → Loads limits.profile bytes limits.load loaded → ShowsCall limits retired loaded invocation a → ShowsCall limits retired loaded invocation b → a ≡ b
  shown_once limits bytes true invocation (Err why) a b loads h g = h ∙ sym g
  shown_once limits bytes false invocation (Err why) a b loads h g = h ∙ sym g
  shown_once limits bytes true invocation (Ok m) a b loads h g = h ∙ sym g
  shown_once limits bytes false asked (Ok m) a b loads h g =
      let valid = (within limits.profile bytes limits.load m loads).valid in
      let one = as_answered m limits.run asked a h in
      let other = as_answered m limits.run asked b g in
      let (same, bytes_same) = one_answer m limits.run asked.export asked.args (sent_by asked) asked.fuel one.answer other.answer one.bytes other.bytes valid one.answered other.answered (one.free ∙ sym other.free) in
      one.shows ∙ ap (λ (l : LaneAnswer). answer_line l (shown_of asked one.bytes)) same ∙ ap (λ (s : List ℕ). answer_line other.answer (shown_of asked s)) bytes_same ∙ sym other.shows

  pub one_call_line : (limits : Limits) (bytes : List ℕ) (retired : Bool) (invocation : Invocation) (a b : CallLine)
      → IsCallLine limits bytes retired invocation a → IsCallLine limits bytes retired invocation b → a ≡ b
  one_call_line limits bytes retired invocation a b h g =
      let same : g.loaded ≡ h.loaded = one_load limits.profile bytes limits.load g.loaded h.loaded g.loads h.loads in
      shown_once limits bytes retired invocation h.loaded a b h.loads h.shows (subst (λ (r : Result ModuleTree Refusal). ShowsCall limits retired r invocation b) same g.shows)

  one_line : (limits : Limits) (modules : List (List ℕ)) (number : ℕ) (d : Directive) (a b : ReportLine) → IsLine limits modules number d a → IsLine limits modules number d b → a ≡ b
  one_line limits modules number (Module name bytes) a b (how, told, is) (how', told', is') =
      is ∙ ap (λ (l : ModuleLine). report.Module name l) (one_module_line one_load limits bytes how how' told told') ∙ sym is'
  one_line limits modules number (Retire place name) a b h g = h ∙ sym g
  one_line limits modules number (Call tenant place retired invocation) a b (how, goes, is) (how', goes', is') =
      let both : Some goes'.bytes ≡ Some goes.bytes = sym goes'.there ∙ goes.there in
      let same : goes'.bytes ≡ goes.bytes = cc in
      is
      ∙ ap (λ (l : CallLine). report.Call number l) (one_call_line limits goes.bytes retired invocation how how' goes.goes (subst (λ (m : List ℕ). IsCallLine limits m retired invocation how') same goes'.goes))
      ∙ sym is'

  pub one_report : (limits : Limits) (modules : List (List ℕ)) (requests : List Directive) (number : ℕ) (a b : List ReportLine)
      → AreLines limits modules number requests a → AreLines limits modules number requests b → a ≡ b
  one_report limits modules [] number a b h g = h ∙ sym g
  one_report limits modules (d ∷ requests) number [] b h g = absurd h
  one_report limits modules (d ∷ requests) number (x ∷ a) [] h g = absurd g
  one_report limits modules (d ∷ requests) number (x ∷ a) (y ∷ b) h g =
      ap (λ (l : ReportLine). l ∷ a) (one_line limits modules number d x y h.0 g.0)
      ∙ ap (λ (ls : List ReportLine). y ∷ ls) (one_report limits modules requests _ a b h.1 g.1)

-- ---- the line of a call

-- the number of the first call after a directive
abbrev next_number : ℕ → Directive → ℕ
next_number number d = if is_call d then number + 1 else number

next_count : (number : ℕ) (d : Directive) (ds : List Directive) → next_number number d + call_count ds ≡ number + call_count (d ∷ ds)
next_count number (Module name bytes) ds = omega (arith, call_count-module name bytes ds)
next_count number (Call tenant place retired invocation) ds = omega (arith, call_count-call tenant place retired invocation ds)
next_count number (Retire place name) ds = omega (arith, call_count-retire place name ds)

module _ (limits : Limits) (modules : List (List ℕ)) (bytes : List ℕ) (retired : Bool) (invocation : Invocation) where
  pub line_at : (ds : List Directive) (at number tenant place : ℕ) (lines : List ReportLine) → AreLines limits modules number ds lines → slice_get ds at ≡ Some (Call tenant place retired invocation)
      → slice_get modules place ≡ Some bytes
      → (how : CallLine) × IsCallLine limits bytes retired invocation how × (slice_get lines at ≡ Some (report.Call (number + call_count (take at ds)) how))
  line_at [] at number tenant place lines h got there = cc
  line_at (d ∷ ds) at number tenant place [] h got there = absurd h
  line_at (d ∷ ds) zero number tenant place (line ∷ lines) h got there =
      let call : d ≡ Call tenant place retired invocation = cc in
      let (how, goes, is) = subst (λ (x : Directive). IsLine limits modules number x line) call h.0 in
      let both : Some goes.bytes ≡ Some bytes = sym goes.there ∙ there in
      let same : goes.bytes ≡ bytes = cc in
      let none : number ≡ number + 0 = omega arith in (
        how,
        subst (λ (b : List ℕ). IsCallLine limits b retired invocation how) same goes.goes,
        ap (λ (l : ReportLine). Some l) is ∙ ap (λ (n : ℕ). Some (report.Call n how)) none,
      )
  line_at (d ∷ ds) (suc at) number tenant place (line ∷ lines) h got there =
      let (how, told, is) = line_at ds at (next_number number d) tenant place lines h.1 got there in
      (how, told, is ∙ ap (λ (n : ℕ). Some (report.Call n how)) (next_count number d (take at ds)))
