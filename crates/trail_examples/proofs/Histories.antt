-- Histories of a pool of one slot: which events may come, and what the seats note of them.
use Rattle.std.proofs.Common.{◌≡◌, ℕ, zero, suc, ltb, false, List, [], ◌∷◌, ◌++◌, flat_map, All, count_by, length, true≢false, refl, sym, ap, ◌∙◌, subst, arith}
use Rattle.std.specs.Prelude.{slice_index_or}
use mathlib.Core.Option.{some, some-injective}
use lib.ListN.{get_elem?}
use Rattle.std.proofs.lemmas.Bool.Decides.{nat_tests}
use Rattle.std.proofs.lemmas.List.Elements.{All-cons, All-nil}
use Rattle.pool_core.specs.declared.events.Event.{Event}
use Rattle.pool_core.specs.declared.events.Event.TheVariants as event
use Rattle.pool_core.specs.declared.seats.Seat.{Seat}
use Rattle.pool_core.specs.declared.seats.Stage.TheVariants.{Live}
use Rattle.pool_core.specs.declared.words.StateWord.{StateWord}
use Rattle.pool_core.specs.StateWords.{bit, cold_target, cold_word}
use Rattle.pool_core.specs.PoolCore.{PoolCore, holding_seat, idle_seat, opening_core}
use Rattle.pool_core.specs.Runs.{AllAllowed, core_after_all}
use Rattle.slot_words.specs.declared.views.Bounds.{Bounds}
use Rattle.slot_words.specs.declared.views.Operation.{Operation}
use Rattle.slot_words.specs.declared.views.Operation.TheVariants as operation
use Rattle.slot_words.specs.declared.views.PassView.{PassView}
use Rattle.slot_words.specs.declared.views.SeatTrail.{SeatTrail}
use Rattle.slot_words.specs.History.{is_of, trail_of, trails_in, IsHistory, IsTrail}
use Rattle.slot_words.specs.Views.{trails_of}
use Rattle.trail_examples.proofs.HistoryLemmas.{one_winner, same_slots, silent_past, silent_words}
use Rattle.trail_examples.proofs.SlotWords.{cold, cold_held, left_awaiting_5, left_warm_5, one_slot}

-- seat 0 claims the slot, and seat 1 finds it held
abbrev found_held : List Event
found_held = event.Split 0 1 ∷ event.Claim 0 0 ∷ event.Claim 1 0 ∷ []

second_finds_it_held : AllAllowed one_slot found_held
second_finds_it_held = (refl, (refl, (refl, tt)))

trail_of_the_first : IsTrail one_slot found_held record { seat = 0; trail = operation.Claim 0 cold ∷ [] }
trail_of_the_first = refl

trail_of_the_second : IsTrail one_slot found_held record { seat = 1; trail = operation.Claim 0 cold_held ∷ [] }
trail_of_the_second = refl

second_wins_too : IsTrail one_slot found_held record { seat = 1; trail = operation.Claim 0 cold ∷ [] } → ⊥
second_wins_too e = let one : ◌≡◌ {A = ℕ} 0 1 = cc in omega (arith, one)

-- the slot is given back by the seat that holds it, and by no other
slot_is_given_back_by_another : AllAllowed one_slot (found_held ++ event.Release 1 0 cold_target ∷ []) → ⊥
slot_is_given_back_by_another may = let four : 4 ≡ 0 = may.1.1.1.0 in omega (arith, four)

-- a seat that holds a slot claims none: no claim is lost to the pass itself
claim_lost_to_the_pass_itself : AllAllowed one_slot (event.Claim 0 0 ∷ event.Claim 0 0 ∷ []) → ⊥
claim_lost_to_the_pass_itself may = let three : 3 ≡ 0 = may.1.0 in omega (arith, three)

-- a slot is left warm by a permit, and awaiting by a mark
left_warm : AllAllowed one_slot (event.Claim 0 0 ∷ event.WarmUp 0 ∷ event.Release 0 0 left_warm_5 ∷ [])
left_warm = (refl, (refl, (refl, tt)))

left_warm_without_a_permit : AllAllowed one_slot (event.Claim 0 0 ∷ event.Release 0 0 left_warm_5 ∷ []) → ⊥
left_warm_without_a_permit may = let six : 6 ≡ 0 = may.1.0 in omega (arith, six)

left_awaiting_without_a_mark : AllAllowed one_slot (event.Claim 0 0 ∷ event.Release 0 0 left_awaiting_5 ∷ []) → ⊥
left_awaiting_without_a_mark may = let six : 6 ≡ 0 = may.1.0 in omega (arith, six)

-- and no permit is kept
permit_is_kept : AllAllowed one_slot (event.Claim 0 0 ∷ event.WarmUp 0 ∷ event.Release 0 0 cold_target ∷ []) → ⊥
permit_is_kept may = let seven : 7 ≡ 0 = may.1.1.0 in omega (arith, seven)

-- ---- passes

abbrev pub bounds : Bounds
bounds = record { limit = 1; passes = 2 }

-- a pass of this number, seat and trail, that stands for itself alone
abbrev pub view : ℕ → Seat → List Operation → PassView
view number seat done = record { number = number; seat = seat; bounds = bounds; unsplit = 0; share = 1; trail = done; joined = [] }

abbrev holder : PassView
holder = view 0 (holding_seat 0 false false false) (operation.Claim 0 cold ∷ [])

abbrev loser : PassView
loser = view 1 (idle_seat Live) (operation.Claim 0 cold_held ∷ [])

abbrev after_both : PoolCore
after_both = core_after_all one_slot found_held

-- a trail of one seat among them
abbrev no_trail : SeatTrail
no_trail = record { seat = 0; trail = [] }

one_trail : (c : PoolCore) (es : List Event) (t : SeatTrail) → IsTrail c es t → All (IsTrail c es) (t ∷ [])
one_trail c es t is = All-cons (IsTrail c es) t [] is (All-nil (IsTrail c es))

numbered : (j : ℕ) (v : PassView) → get_elem? (holder ∷ loser ∷ []) j ≡ some v → v.number ≡ j
numbered zero v at = cc
numbered (suc zero) v at = cc
numbered (suc (suc j)) v at = cc

noted_each : (j : ℕ) (v : PassView) → get_elem? (holder ∷ loser ∷ []) j ≡ some v → All (IsTrail one_slot found_held) (trails_of v)
noted_each zero v at = subst (λ (w : PassView). All (IsTrail one_slot found_held) (trails_of w)) (some-injective holder v at) (one_trail one_slot found_held _ refl)
noted_each (suc zero) v at = subst (λ (w : PassView). All (IsTrail one_slot found_held) (trails_of w)) (some-injective loser v at) (one_trail one_slot found_held _ refl)
noted_each (suc (suc j)) v at = absurd cc

one_trail_each : (s : ℕ) → count_by (is_of s) (flat_map trails_in (holder ∷ loser ∷ [])) ≡ bit (ltb s 2)
one_trail_each s = grind (arith, nat_tests)

it_is_a_history : IsHistory one_slot after_both (holder ∷ loser ∷ [])
it_is_a_history = record {
  events = found_held;
  allowed = second_finds_it_held;
  leads = refl;
  number = λ j v at lives. numbered j v at;
  each = λ j v at lives. noted_each j v at;
  one_each = one_trail_each;
  unmade = silent_past one_slot found_held second_finds_it_held;
}

-- whatever the events are: no two passes won the one slot
two_passes_hold_one_slot : (c : PoolCore) → IsHistory one_slot c (holder ∷ view 1 (holding_seat 0 false false false) (operation.Claim 0 cold ∷ []) ∷ []) → ⊥
two_passes_hold_one_slot c h = one_winner one_slot h.events h.allowed (omega arith) (sym (h.each 0 _ refl refl 0 no_trail (omega arith))) (sym (h.each 1 _ refl refl 0 no_trail (omega arith)))

-- of a pass no more than were handed out nothing is noted
a_pass_too_many : (c : PoolCore) → IsHistory one_slot c (view 0 (idle_seat Live) [] ∷ view 1 (idle_seat Live) [] ∷ view 2 (idle_seat Live) (operation.Load 0 cold ∷ []) ∷ []) → ⊥
a_pass_too_many c h =
    let none = silent_past one_slot h.events h.allowed 2 (omega arith) in
    let some : operation.Load 0 cold ∷ [] ≡ trail_of 2 one_slot h.events = h.each 2 _ refl refl 0 no_trail (omega arith) in cc

-- a pass knows its own number
another_number : (c : PoolCore) → IsHistory one_slot c (view 1 (idle_seat Live) [] ∷ []) → ⊥
another_number c h = let one : ◌≡◌ {A = ℕ} 1 0 = h.number 0 _ refl refl in omega (arith, one)

-- a trail is of one pass alone, its own or another's into which it was joined
same_trail_twice : (c : PoolCore) → IsHistory one_slot c (record (view 0 (idle_seat Live) []) { joined = record { seat = 0; trail = [] } ∷ [] } ∷ []) → ⊥
same_trail_twice c h = let two : ◌≡◌ {A = ℕ} 2 1 = h.one_each 0 in omega (arith, two)

-- a history leads to a pool of as many slots
a_slot_more : IsHistory one_slot (opening_core 2 1 2) (view 0 (idle_seat Live) [] ∷ []) → ⊥
a_slot_more h = let one : ◌≡◌ {A = ℕ} 2 1 = ap (λ (c : PoolCore). length c.words) h.leads ∙ same_slots one_slot h.events in omega (arith, one)

-- and the slot is not held where nobody claimed it
held_by_nobody : IsHistory one_slot after_both [] → ⊥
held_by_nobody h = let same : after_both.words ≡ one_slot.words = ap (λ (c : PoolCore). c.words) h.leads ∙ silent_words one_slot h.events (λ s. h.unmade s (omega arith)) in
    true≢false (ap (λ (ws : List StateWord). (slice_index_or ws 0 cold_word).held) same)
