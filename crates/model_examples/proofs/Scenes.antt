-- A world of two callers, and its lists of events scene by scene.
use Rattle.std.proofs.Common.{◌≡◌, ℕ, zero, suc, Bool, true, false, ◌&&◌, List, [], ◌∷◌, ◌++◌, refl, sym, subst, true≢false}
use Rattle.std.specs.Prelude.{Option, Some, None, is_none, ◌==◌, slice_index, slice_index_or}
use Rattle.std.specs.List.{list_any}
use Rattle.std.proofs.lemmas.Bool.{and_parts, or_parts, eqb-true}
use Rattle.wasm_values.specs.declared.profile.Profile.TheVariants.{One}
use Rattle.wasm_values.specs.declared.outcome.Val.{Val}
use Rattle.wasm_values.specs.declared.outcome.Val.TheVariants.{I32}
use Rattle.wasm_values.specs.declared.outcome.Outcome.{Outcome}
use Rattle.wasm_values.specs.declared.outcome.Outcome.TheVariants as outcome
use Rattle.pool_core.specs.declared.events.Event.{Event}
use Rattle.pool_core.specs.declared.events.Event.TheVariants.{Release}
use Rattle.pool_core.specs.PoolCore.{opening_core}
use Rattle.pool_core.specs.RefusalRules.{refusal_of, seat_of}
use Rattle.memory_blocks.specs.Blocks.{is_marked}
use Rattle.pool_model.specs.Contents.{Named, Contents, memory_image, IsCold}
use Rattle.pool_model.specs.declared.kinds.Kind.{Kind}
use Rattle.pool_model.specs.declared.kinds.Kind.TheVariants.{Instance, Memory, Table}
use Rattle.pool_model.specs.PoolMachine.{World, Request, Running, Machine, WorldEvent, Step, Prepare, Restore, Clear, Begin, Turn, End, Cancel, IsFree, IsModule, IsCallable, after, after_all, AllMayHappen, IsOpening}
use Rattle.pool_model.specs.Fitting.{ReleaseFits, AllReleasesFit}
use Rattle.model_examples.proofs.NoCode.{no_code}
use Rattle.model_examples.proofs.Keeper.{keeper, keeper_bytes, keeper_loads, f_type}

-- Each number on the shelf has the same module, under a tag of its own.
abbrev pub module_at : ℕ → Named
module_at n = record { number = n; tag = n; tree = keeper; code = no_code }

abbrev pub first : Named
first = module_at 0

abbrev pub second : Named
second = module_at 1

-- caller i has the seat i of each kind
abbrev pub world : World
world = record { limits = record { pages = 1; elements = 1; frame = 8; depth = 4 }; shelf = module_at; seats = λ k i. i; apart = λ k i j e. e }

pub is_module : (n : ℕ) → IsModule world (module_at n)
is_module n = record { on_shelf = refl; profile = One; bytes = keeper_bytes; loads = keeper_loads }

-- its function `f` is called on this fuel, of which it needs five
abbrev pub request_of : Named → ℕ → Request
request_of m fuel = record { named = m; function = 0; arguments = []; sent = []; fuel = fuel }

pub callable : (n fuel : ℕ) → IsCallable (request_of (module_at n) fuel)
callable n fuel = record {
  export = 0x66 ∷ [];
  exported = record { place = 0; there = refl };
  type = f_type;
  typed = refl;
  fitting = refl;
}

-- ---- the opening: two slots of each kind, of which one may be warm, and two passes

abbrev pub cold : (k : Kind) → Contents k
cold Instance = I32 7 ∷ []
cold Memory = record { bytes = memory_image 1 None; pages = 0; marks = []; holds = None }
cold Table = record { entries = []; holds = None }

pub cold_is : (k : Kind) → IsCold 1 k (cold k)
cold_is Instance = tt
cold_is Memory = record { holds = refl; size = refl; bytes = refl; clean = λ i. refl }
cold_is Table = (refl, refl)

abbrev pub opened : Machine
opened = record { core = λ k. opening_core 2 1 2; contents = λ k n. cold k; calls = λ i. None }

pub opens : IsOpening world opened
opens = record { slots = λ k. 2; limit = λ k. 1; passes = λ k. 2; core = λ k. refl; cold = λ k n. cold_is k; calls = λ i. refl }

-- ---- what tells apart

pub done : (v : Option Val) → ◌≡◌ {A = Option Outcome} (Some (outcome.Done v)) (Some outcome.Fuel) → ⊥
done v e = cc

pub call_is_there : {r : Running} → ◌≡◌ {A = Option Running} (Some r) None → ⊥
call_is_there e = cc

pub same_call : {r c : Running} → ◌≡◌ {A = Option Running} (Some r) (Some c) → r ≡ c
same_call e = cc

-- ---- steps, one after the other

abbrev pub may_step : Machine → Kind → Event → Bool
may_step p k e = refusal_of (p.core k) e == 0 && is_none (p.calls (seat_of e))

-- whether these are steps alone, each of which may come, by a seat whose caller has no call
abbrev pub all_may_step : Machine → List WorldEvent → Bool
all_may_step p [] = true
all_may_step p (Step k e ∷ es) = may_step p k e && all_may_step (after world p (Step k e)) es
all_may_step p (e ∷ es) = false

none_is : (o : Option Running) → is_none o ≡ true → o ≡ None
none_is None h = refl
none_is (Some r) h = absurd (true≢false (sym h))

pub is_free : (p : Machine) (k : Kind) (s : ℕ) → is_none (p.calls s) ≡ true → IsFree world p k s
is_free p k s h i e = subst (λ (j : ℕ). p.calls j ≡ None) (sym e) (none_is (p.calls s) h)

pub steps_happen : (p : Machine) (es : List WorldEvent) → all_may_step p es ≡ true → AllMayHappen world p es
steps_happen p [] h = tt
steps_happen p (Step k e ∷ es) h =
    let both = and_parts (may_step p k e) (all_may_step (after world p (Step k e)) es) h in
    let here = and_parts (refusal_of (p.core k) e == 0) (is_none (p.calls (seat_of e))) both.0 in
    ((eqb-true (refusal_of (p.core k) e) 0 here.0, is_free p k (seat_of e) here.1), steps_happen (after world p (Step k e)) es both.1)
steps_happen p (Prepare k s m ∷ es) h = absurd (true≢false (sym h))
steps_happen p (Restore k s ∷ es) h = absurd (true≢false (sym h))
steps_happen p (Clear k s x ∷ es) h = absurd (true≢false (sym h))
steps_happen p (Begin i q ∷ es) h = absurd (true≢false (sym h))
steps_happen p (Turn i marks ∷ es) h = absurd (true≢false (sym h))
steps_happen p (End i marks ∷ es) h = absurd (true≢false (sym h))
steps_happen p (Cancel i ∷ es) h = absurd (true≢false (sym h))

-- ---- releases

abbrev pub is_release : WorldEvent → Bool
is_release (Step k (Release s n to)) = true
is_release e = false

abbrev pub releases : List WorldEvent → Bool
releases es = list_any is_release es

none_here : (p : Machine) (e : WorldEvent) → is_release e ≡ false → ReleaseFits world p e
none_here p (Step k (Release s n to)) h = absurd (true≢false h)
none_here p e h = tt

pub nothing_released : (p : Machine) (es : List WorldEvent) → releases es ≡ false → AllReleasesFit world p es
nothing_released p [] h = tt
nothing_released p (e ∷ es) h = let both = or_parts (is_release e) (releases es) h in (none_here p e both.0, nothing_released (after world p e) es both.1)

-- ---- marks, and the four bytes that the module writes

pub unmarked : (i : ℕ) → slice_index_or (false ∷ []) i false ≡ false
unmarked zero = refl
unmarked (suc i) = refl

-- in a memory whose first block is marked, they alone may differ
pub beyond_four : (a b c d e f g h : ℕ) (rest : List ℕ) (i : ℕ)
    → is_marked (true ∷ []) i ≡ false → slice_index (a ∷ b ∷ c ∷ d ∷ rest) i ≡ slice_index (e ∷ f ∷ g ∷ h ∷ rest) i
beyond_four a b c d e f g h rest zero m = absurd (true≢false m)
beyond_four a b c d e f g h rest (suc zero) m = absurd (true≢false m)
beyond_four a b c d e f g h rest (suc (suc zero)) m = absurd (true≢false m)
beyond_four a b c d e f g h rest (suc (suc (suc zero))) m = absurd (true≢false m)
beyond_four a b c d e f g h rest (suc (suc (suc (suc i)))) m = refl

-- ---- one scene after another

-- each event may come where it does, and each release fits
pub record Plays (p : Machine) (es : List WorldEvent) : Type 0 where
  pub happen : AllMayHappen world p es
  pub fit : AllReleasesFit world p es

both_happen : (p : Machine) (es ds : List WorldEvent) → AllMayHappen world p es
    → AllMayHappen world (after_all world p es) ds → AllMayHappen world p (es ++ ds)
both_happen p [] ds h k = k
both_happen p (e ∷ es) ds h k = (h.0, both_happen (after world p e) es ds h.1 k)

both_fit : (p : Machine) (es ds : List WorldEvent) → AllReleasesFit world p es
    → AllReleasesFit world (after_all world p es) ds → AllReleasesFit world p (es ++ ds)
both_fit p [] ds h k = k
both_fit p (e ∷ es) ds h k = (h.0, both_fit (after world p e) es ds h.1 k)

pub plays : (p : Machine) (es : List WorldEvent) → AllMayHappen world p es → AllReleasesFit world p es → Plays p es
plays p es happen fit = record { happen = happen; fit = fit }

-- where nothing is released
pub plays_on : (p : Machine) (es : List WorldEvent) → AllMayHappen world p es → releases es ≡ false → Plays p es
plays_on p es happen none = plays p es happen (nothing_released p es none)

pub and_then : {p : Machine} {es ds : List WorldEvent} → Plays p es → Plays (after_all world p es) ds → Plays p (es ++ ds)
and_then {p} {es} {ds} a b = record { happen = both_happen p es ds a.happen b.happen; fit = both_fit p es ds a.fit b.fit }
