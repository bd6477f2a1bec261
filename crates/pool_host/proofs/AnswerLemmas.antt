-- A call has one answer.
use Rattle.std.proofs.Common.{◌≡◌, ℕ, ◌<◌, false, true≢false, List, Some, refl, sym, ap, ◌∙◌, subst, arith, inl, inr}
use Rattle.std.specs.Prelude.{slice_get}
use Rattle.std.proofs.lemmas.Bool.{cases_lt}
use Rattle.std.proofs.lemmas.Option.{get_or_from_slice_get, slice_get_within}
use Rattle.wasm_types.specs.declared.types.FuncType.{FuncType}
use Rattle.wasm_values.specs.declared.outcome.Val.{Val}
use Rattle.wasm_types.specs.declared.module.Export.{Export}
use Rattle.wasm_types.specs.declared.module.ExportDesc.TheVariants as desc
use Rattle.wasm_types.specs.Tree.{ModuleTree}
use Rattle.wasm_types.specs.declared.limits.RunLimits.{RunLimits}
use Rattle.wasm_spec.specs.Result.{answer_of}
use Rattle.wasm_spec.specs.Validity.{Exports, IsValid}
use Rattle.instance_calls.specs.CallWords.{IsExported}
use Rattle.pool_host.specs.CallWords.{is_retired, IsAnswer}
use Rattle.pool_host.specs.declared.lane.LaneAnswer.{LaneAnswer}
use Rattle.pool_host.specs.declared.lane.LaneAnswer.TheVariants.{Done, NoExport, BadArgs, Retired}

differ : (m : ModuleTree) (name : List ℕ) (i j : ℕ) (e f : Export) → IsValid m → slice_get m.exports i ≡ Some e → slice_get m.exports j ≡ Some f
    → e.name ≡ name → f.name ≡ name → i < j → ⊥
differ m name i j e f valid at at' is is' lt =
    let name_of : Export → List ℕ = λ (x : Export). x.name in
    valid.names_differ i j e lt (slice_get_within m.exports j f at')
    (ap name_of (get_or_from_slice_get m.exports i e e at) ∙ is ∙ sym is' ∙ sym (ap name_of (get_or_from_slice_get m.exports j f e at')))

one_place : (m : ModuleTree) (name : List ℕ) (i j : ℕ) (e f : Export) → IsValid m → slice_get m.exports i ≡ Some e → slice_get m.exports j ≡ Some f
    → e.name ≡ name → f.name ≡ name → i ≡ j
one_place m name i j e f valid at at' is is' = elim (cases_lt i j) [
  | inl lt ↦ absurd (differ m name i j e f valid at at' is is' lt)
  | inr le ↦ elim (cases_lt j i) [ inl lt ↦ absurd (differ m name j i f e valid at' at is' is lt) | inr ge ↦ omega arith ]
]

pub one_export : (m : ModuleTree) (name : List ℕ) (x y : ℕ) → IsValid m → Exports m.exports name x → Exports m.exports name y → x ≡ y
one_export m name x y valid h g =
    let e : Export = record { name = name; desc = desc.Func x } in
    let f : Export = record { name = name; desc = desc.Func y } in
    let same : h.place ≡ g.place = one_place m name h.place g.place e f valid h.there g.there refl refl in
    let there : slice_get m.exports g.place ≡ Some e = subst (λ (k : ℕ). slice_get m.exports k ≡ Some e) same h.there in
    let both : Some e ≡ Some f = sym there ∙ g.there in
    let one : e ≡ f = cc in
    let d : desc.Func x ≡ desc.Func y = ap (λ (k : Export). k.desc) one in cc

module _ (m : ModuleTree) (limits : RunLimits) (export : List ℕ) (args : List Val) (request : List ℕ) (fuel : ℕ) (valid : IsValid m) where
  one_type : (x y : ℕ) (t u : FuncType) → IsExported m export x t → IsExported m export y u → (x ≡ y) × (t ≡ u)
  one_type x y t u h g =
      let same : x ≡ y = one_export m export x y valid h.exported g.exported in
      let typed : Some t ≡ Some u = sym (rw same at h.typed) ∙ g.typed in
      (same, cc)

  -- of a module that is not retired
  made_once : (a b : LaneAnswer) (x y : List ℕ) → is_retired a ≡ false → is_retired b ≡ false → IsAnswer m limits export args request fuel a x → IsAnswer m limits export args request fuel b y → (a ≡ b) × (x ≡ y)
  made_once NoExport NoExport x y r q h g = (refl, h.1 ∙ sym g.1)
  made_once NoExport BadArgs x y r q h g = absurd (h.0 g.0.function g.0.exported.exported)
  made_once NoExport (Done o) x y r q h g = absurd (h.0 g.function g.exported.exported)
  made_once BadArgs NoExport x y r q h g = absurd (g.0 h.0.function h.0.exported.exported)
  made_once BadArgs BadArgs x y r q h g = (refl, h.1 ∙ sym g.1)
  made_once BadArgs (Done o) x y r q h g =
      let (same, types) = one_type h.0.function g.function h.0.type g.type h.0.exported g.exported in absurd (h.0.differ (rw types g.fit))
  made_once (Done p) NoExport x y r q h g = absurd (g.0 h.function h.exported.exported)
  made_once (Done p) BadArgs x y r q h g =
      let (same, types) = one_type h.function g.0.function h.type g.0.type h.exported g.0.exported in absurd (g.0.differ (rw (← types) h.fit))
  made_once (Done p) (Done o) x y r q h g =
      let (same, types) = one_type h.function g.function h.type g.type h.exported g.exported in
      let ends : Some h.result ≡ Some g.result = sym (rw same at h.ends) ∙ g.ends in
      let one : h.result ≡ g.result = cc in
      (ap Done (h.shows ∙ ap (λ k. k.outcome) one ∙ sym g.shows), h.answers ∙ ap answer_of one ∙ sym g.answers)
  made_once Retired b x y r q h g = absurd (true≢false r)
  made_once a Retired x y r q h g = absurd (true≢false q)

  pub one_answer : (a b : LaneAnswer) (x y : List ℕ) → is_retired a ≡ is_retired b → IsAnswer m limits export args request fuel a x → IsAnswer m limits export args request fuel b y → (a ≡ b) × (x ≡ y)
  one_answer Retired Retired x y same h g = (refl, h.2 ∙ sym g.2)
  one_answer Retired NoExport x y same h g = absurd (true≢false same)
  one_answer Retired BadArgs x y same h g = absurd (true≢false same)
  one_answer Retired (Done o) x y same h g = absurd (true≢false same)
  one_answer NoExport b x y same h g = made_once NoExport b x y refl (sym same) h g
  one_answer BadArgs b x y same h g = made_once BadArgs b x y refl (sym same) h g
  one_answer (Done o) b x y same h g = made_once (Done o) b x y refl (sym same) h g
