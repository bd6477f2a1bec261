-- Loading has one answer, whatever modules are run.
use Rattle.std.proofs.Common.{◌≡◌, ℕ, ◌≤◌, Bool, true, false, cond, List, Option, Some, None, refl, sym, ap, ◌∙◌, subst, ◌⊎◌, inl, inr}
use Rattle.std.specs.Prelude.{Result, Ok, Err, nat_lt, option_map}
use Rattle.std.specs.Option.{option_or}
use Rattle.std.proofs.lemmas.Bool.{ltb-false}
use Rattle.wasm_types.specs.declared.limits.LoadLimits.{LoadLimits}
use Rattle.wasm_values.specs.declared.profile.Profile.{Profile}
use Rattle.wasm_types.specs.Tree.{ModuleTree}
use Rattle.wasm_spec.specs.Grammar.{Spells}
use Rattle.wasm_spec.proofs.UnambiguousModules.{spells-unique}
use Rattle.wasm_spec.specs.Store.{Extent}
use Rattle.wasm_spec.specs.Loading.{Refusal, Malformed, Unsupported, Invalid, OverLimit, Segment, Demand, IsAnswered, Answers, LoadsBy}

module _ (Runs : ModuleTree → Type 0) (limits : LoadLimits) (m : ModuleTree) where
  pub answers-unique : (r s : Result ModuleTree Refusal) → Answers Runs limits m r → Answers Runs limits m s → r ≡ s
  answers-unique (Ok t) (Ok u) h g = ap Ok (h.1 ∙ sym g.1)
  answers-unique (Ok t) (Err Malformed) h g = absurd g
  answers-unique (Ok t) (Err Unsupported) h g = absurd (g h.0.runs)
  answers-unique (Ok t) (Err Invalid) h g = absurd (g.1 h.0.valid)
  answers-unique (Ok t) (Err (OverLimit e)) h g = cc (h.0.late_is, g.late_is)
  answers-unique (Ok t) (Err (Segment e)) h g = cc (h.0.late_is, g.late_is)
  answers-unique (Err Malformed) s h g = absurd h
  answers-unique (Err Unsupported) (Ok u) h g = absurd (h g.0.runs)
  answers-unique (Err Unsupported) (Err Malformed) h g = absurd g
  answers-unique (Err Unsupported) (Err Unsupported) h g = refl
  answers-unique (Err Unsupported) (Err Invalid) h g = absurd (h g.0)
  answers-unique (Err Unsupported) (Err (OverLimit e)) h g = absurd (h g.runs)
  answers-unique (Err Unsupported) (Err (Segment e)) h g = absurd (h g.runs)
  answers-unique (Err Invalid) (Ok u) h g = absurd (h.1 g.0.valid)
  answers-unique (Err Invalid) (Err Malformed) h g = absurd g
  answers-unique (Err Invalid) (Err Unsupported) h g = absurd (g h.0)
  answers-unique (Err Invalid) (Err Invalid) h g = refl
  answers-unique (Err Invalid) (Err (OverLimit e)) h g = absurd (h.1 g.valid)
  answers-unique (Err Invalid) (Err (Segment e)) h g = absurd (h.1 g.valid)
  answers-unique (Err (OverLimit d)) (Ok u) h g = cc (h.late_is, g.0.late_is)
  answers-unique (Err (OverLimit d)) (Err Malformed) h g = absurd g
  answers-unique (Err (OverLimit d)) (Err Unsupported) h g = absurd (g h.runs)
  answers-unique (Err (OverLimit d)) (Err Invalid) h g = absurd (g.1 h.valid)
  answers-unique (Err (OverLimit d)) (Err (OverLimit e)) h g = cc (h.late_is, g.late_is)
  answers-unique (Err (OverLimit d)) (Err (Segment e)) h g = cc (h.late_is, g.late_is)
  answers-unique (Err (Segment d)) (Ok u) h g = cc (h.late_is, g.0.late_is)
  answers-unique (Err (Segment d)) (Err Malformed) h g = absurd g
  answers-unique (Err (Segment d)) (Err Unsupported) h g = absurd (g h.runs)
  answers-unique (Err (Segment d)) (Err Invalid) h g = absurd (g.1 h.valid)
  answers-unique (Err (Segment d)) (Err (OverLimit e)) h g = cc (h.late_is, g.late_is)
  answers-unique (Err (Segment d)) (Err (Segment e)) h g = cc (h.late_is, g.late_is)

module _ (Runs : ModuleTree → Type 0) (profile : Profile) (bytes : List ℕ) (limits : LoadLimits) where
  -- loading says either that no module is spelled, or which answer one has
  answered : (r : Result ModuleTree Refusal) → LoadsBy Runs profile bytes limits r → ((r ≡ Err Malformed) × ((m : ModuleTree) → Spells profile bytes m → ⊥)) ⊎ IsAnswered Runs limits profile bytes r
  answered (Ok t) h = inr h
  answered (Err Malformed) h = inl (refl, h)
  answered (Err Unsupported) h = inr h
  answered (Err Invalid) h = inr h
  answered (Err (OverLimit d)) h = inr h
  answered (Err (Segment d)) h = inr h

  both_answered : (r s : Result ModuleTree Refusal) → IsAnswered Runs limits profile bytes r → IsAnswered Runs limits profile bytes s → r ≡ s
  both_answered r s h g =
      let same : h.tree ≡ g.tree = spells-unique profile bytes h.tree g.tree h.spells g.spells in
      answers-unique Runs limits g.tree r s (subst (λ (m : ModuleTree). Answers Runs limits m r) same h.answers) g.answers

  pub loads_by-unique : (r s : Result ModuleTree Refusal) → LoadsBy Runs profile bytes limits r → LoadsBy Runs profile bytes limits s → r ≡ s
  loads_by-unique r s h g = elim (answered r h) [
    | inl a ↦ elim (answered s g) [ inl b ↦ a.0 ∙ sym b.0 | inr b ↦ absurd (a.1 b.tree b.spells) ]
    | inr a ↦ elim (answered s g) [ inl b ↦ absurd (b.1 a.tree a.spells) | inr b ↦ both_answered r s a b ]
  ]

-- ---- no refusal

pub no_refusal : (d : Option Demand) (e : Option Extent) → option_or (option_map (λ (x : Demand). OverLimit x) d) (option_map (λ (x : Extent). Segment x) e) ≡ None → (d ≡ None) × (e ≡ None)
no_refusal None None h = (refl, refl)
no_refusal None (Some x) h = absurd (cc)
no_refusal (Some y) e h = absurd (cc)

-- a demand that is not found to be over keeps to its limit, and the others are not found either
pub first_keeps : (limit value : ℕ) (d : Demand) (rest : Option Demand) → ◌≡◌ {A = Option Demand} (cond (nat_lt limit value) (Some d) rest) None
    → (value ≤ limit) × (rest ≡ None)
first_keeps limit value d rest h =
    let split : (b : Bool) → nat_lt limit value ≡ b → ◌≡◌ {A = Option Demand} (cond b (Some d) rest) None → (value ≤ limit) × (rest ≡ None) = elim [
      | true ↦ λ q n. absurd (cc)
      | false ↦ λ q n. (ltb-false limit value q, n)
    ] in split (nat_lt limit value) refl h
