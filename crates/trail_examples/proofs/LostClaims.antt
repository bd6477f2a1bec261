-- Lost claims.
use Rattle.std.proofs.Common.{◌≡◌, ℕ, zero, suc, ◌+◌, ◌%◌, ◌≤◌, ◌==◌, ◌&&◌, Bool, false, List, [], ◌∷◌, ◌++◌, count_by, refl, ap, ◌∙◌, arith, eq-eqb}
use Rattle.std.specs.Prelude.{Option, Some}
use mathlib.Core.Option.{none}
use Rattle.atomic_table.specs.Table.{State as TableState}
use Rattle.std.proofs.lemmas.List.Sums.{sum_by-append}
use Rattle.pool_core.specs.declared.words.State.{State}
use Rattle.pool_core.specs.StateWords.{bit, cold_word, free_word, held_word}
use Rattle.pool_core.proofs.WordBits.{packed-mod_2}
use Rattle.slot_words.specs.declared.views.Operation.{Operation}
use Rattle.slot_words.specs.declared.views.Operation.TheVariants.{Claim, Load}
use Rattle.slot_words.specs.declared.views.Bounds.{Bounds}
use Rattle.slot_words.specs.declared.views.PassView.{PassView}
use Rattle.slot_words.specs.Rows.{IsLost}
use Rattle.slot_words.specs.Shows.{shown_seat, ShowsLawful}
use Rattle.slot_words.specs.Views.{first_view}
use Rattle.slot_pools.specs.Causes.{HasLostClaim, LostToAnother}
use Rattle.trail_examples.proofs.SlotWords.{cold, cold_held, left_warm_5, warm_5_held}

-- ---- a count of them

abbrev pub is_lost_claim : ℕ → Operation → Bool
is_lost_claim n (Claim m read) = (m == n) && (read % 2 == 1)
is_lost_claim n o = false

pub counted : (p : Operation → Bool) (xs ys : List Operation) → count_by p (xs ++ ys) ≡ count_by p xs + count_by p ys
counted p xs ys = sum_by-append (λ (o : Operation). bit (p o)) xs ys

read_held : (n : ℕ) (done : List Operation) (lost : IsLost n done) → lost.read % 2 ≡ 1
read_held n done lost = ap (λ (k : ℕ). k % 2) lost.is_word.packed_is ∙ packed-mod_2 lost.word ∙ ap bit lost.held

pub lost_is_counted : (n : ℕ) (done : List Operation) → IsLost n done → count_by (is_lost_claim n) done ≡ 1
lost_is_counted n done lost = rw (lost.done_is, eq-eqb n n refl, read_held n done lost) refl

pub lost_among : (n : ℕ) (done : List Operation) → HasLostClaim n done → 1 ≤ count_by (is_lost_claim n) done
lost_among n done h =
    let one = lost_is_counted n h.claim h.lost in let all = ap (λ (os : List Operation). count_by (is_lost_claim n) os) h.done_is in
    let first = counted (is_lost_claim n) h.before (h.claim ++ h.after) in let rest = counted (is_lost_claim n) h.claim h.after in omega arith

-- ---- examples

-- claims that found slot 0 and slot 1 held
pub lost_cold : IsLost 0 (Claim 0 cold_held ∷ [])
lost_cold = record { read = cold_held; word = held_word cold_word; is_word = record { packed_is = refl; well_formed = refl }; held = refl; done_is = refl }

pub lost_warm : IsLost 1 (Claim 1 warm_5_held ∷ [])
lost_warm = record { read = warm_5_held; word = held_word (free_word left_warm_5); is_word = record { packed_is = refl; well_formed = refl }; held = refl; done_is = refl }

lost_claim : HasLostClaim 0 (Load 0 cold ∷ Claim 0 cold_held ∷ Claim 1 cold ∷ [])
lost_claim = record { before = Load 0 cold ∷ []; claim = Claim 0 cold_held ∷ []; after = Claim 1 cold ∷ []; lost = lost_cold; done_is = refl }

claim_of_a_free_slot : HasLostClaim 0 (Claim 0 cold ∷ []) → ⊥
claim_of_a_free_slot h = let one : ◌≤◌ 1 0 = lost_among 0 _ h in omega (arith, one)

claim_of_another_slot : HasLostClaim 0 (Claim 1 cold_held ∷ []) → ⊥
claim_of_another_slot h = let one : ◌≤◌ 1 0 = lost_among 0 _ h in omega (arith, one)

look_at_a_held_slot : HasLostClaim 0 (Load 0 cold_held ∷ []) → ⊥
look_at_a_held_slot h = let one : ◌≤◌ 1 0 = lost_among 0 _ h in omega (arith, one)

-- ---- to whom

-- A table of one slot, whose word says that it is held, and of one pass, which holds nothing.
abbrev held_by_nobody : TableState (Option ℕ) PassView
held_by_nobody = record { words = cold_held ∷ 0 ∷ 0 ∷ 0 ∷ []; homes = none ∷ []; views = first_view (record { limit = 1; passes = 1 }) ∷ [] }

no_other_holds_it : (j n : ℕ) → (shown_seat held_by_nobody.views j).holds ≡ Some n → ⊥
no_other_holds_it zero n e = cc
no_other_holds_it (suc j) n e = cc

module _ (fits : State → ℕ → ℕ → Type 0) (bounds : Bounds) where
  -- by the law of lost claims no passes show it
  lost_to_nobody : LostToAnother fits → ShowsLawful fits bounds held_by_nobody → ⊥
  lost_to_nobody law shows = let (j, other, holds) = law bounds held_by_nobody shows 0 0 (omega arith) lost_cold refl in no_other_holds_it j 0 holds
