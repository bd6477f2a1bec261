-- The views' trails have what all seats noted.
use Rattle.std.proofs.Common.{◌≡◌, ℕ, suc, ◌+◌, ◌≤◌, ltb, Bool, true, false, if◌then◌else◌, List, [], ◌∷◌, ◌++◌, length, refl, sym, ap, ◌∙◌, subst, arith, lt_of_not-le}
use mathlib.Core.Logic.{dite}
use mathlib.Core.Option.{some}
use native.Mathlib.Decide.{ℕ_discrete, dec_le}
use lib.ListN.{get_elem?}
use Rattle.std.specs.Prelude.{◌==◌, flat_map}
use Rattle.std.specs.List.{All, count_by, sum_by}
use Rattle.std.proofs.lemmas.Bool.{eq-eqb, ne_eqb, lt-ltb}
use Rattle.std.proofs.lemmas.List.Concat.{flat_map-append}
use Rattle.std.proofs.lemmas.List.Elements.{All-nil, All-head, All-tail, All-append}
use Rattle.std.proofs.lemmas.List.Sums.{sum_by-append, sum_by-cons}
use Rattle.pool_core.specs.declared.events.Event.{Event}
use Rattle.pool_core.specs.StateWords.{bit}
use Rattle.pool_core.specs.PoolCore.{PoolCore, is_away}
use Rattle.pool_core.specs.EventEffects.{core_after}
use Rattle.pool_core.specs.RefusalRules.{seat_of}
use Rattle.slot_words.specs.declared.views.PassView.{PassView}
use Rattle.slot_words.specs.declared.views.Operation.{Operation}
use Rattle.slot_words.specs.declared.views.SeatTrail.{SeatTrail}
use Rattle.slot_words.specs.Views.{in_one, trails_of}
use Rattle.slot_words.specs.History.{all_noted, all_operations, is_of, noted, noted_by, trail_of, trails_in, IsHistory, IsTrail}
use Rattle.pool_core.proofs.WordBits.{bit_le}
use Rattle.slot_words.proofs.HistorySteps.{trails_here}
use Rattle.slot_words.proofs.NotedBySeats.{both_empty, noted_here, noted_elsewhere}

module _ {X : Type 0} where
  sum_of_both : (h f g : X → ℕ) → ((x : X) → h x ≡ f x + g x) → (xs : List X) → sum_by h xs ≡ sum_by f xs + sum_by g xs
  sum_of_both h f g both [] = refl
  sum_of_both h f g both (x ∷ xs) = let rest = sum_of_both h f g both xs in let here = both x in let a = sum_by-cons h x xs in let b = sum_by-cons f x xs in let c = sum_by-cons g x xs in omega arith

  sum_of_none : (xs : List X) → sum_by (λ x. 0) xs ≡ 0
  sum_of_none [] = refl
  sum_of_none (x ∷ xs) = let rest = sum_of_none xs in let a = sum_by-cons (λ (y : X). 0) x xs in omega arith

module _ (p : Operation → Bool) where
  -- what one seat noted is in its trail
  abbrev noted_of : PoolCore → List Event → SeatTrail → ℕ
  noted_of c es t = count_by p (trail_of t.seat c es)

  in_trails : (c : PoolCore) (es : List Event) (ts : List SeatTrail) → All (IsTrail c es) ts → count_by p (in_one ts) ≡ sum_by (noted_of c es) ts
  in_trails c es [] all = refl
  in_trails c es (t ∷ ts) all = let a : count_by p (in_one (t ∷ ts)) ≡ count_by p t.trail + count_by p (in_one ts) = sum_by-append (λ x. bit (p x)) t.trail (in_one ts) in
      let b = sum_by-cons (noted_of c es) t ts in let rest = in_trails c es ts (All-tail (IsTrail c es) t ts all) in
      let here : count_by p t.trail ≡ noted_of c es t = ap (λ (os : List Operation). count_by p os) (All-head (IsTrail c es) t ts all) in omega arith

  -- what the seat of a trail noted of one event
  abbrev noted_once : PoolCore → Event → SeatTrail → ℕ
  noted_once c e t = count_by p (noted_by t.seat c e)

  none_notes : (c : PoolCore) (e : Event) (ts : List SeatTrail) → count_by (is_of (seat_of e)) ts ≡ 0 → sum_by (noted_once c e) ts ≡ 0
  none_notes c e [] none = refl
  none_notes c e (t ∷ ts) none = let a : count_by (is_of (seat_of e)) (t ∷ ts) ≡ bit (t.seat == seat_of e) + count_by (is_of (seat_of e)) ts = sum_by-cons (λ (u : SeatTrail). bit (is_of (seat_of e) u)) t ts in
      let b = sum_by-cons (noted_once c e) t ts in let rest = none_notes c e ts (omega arith) in
      let here : noted_once c e t ≡ 0 = ap (λ (os : List Operation). count_by p os) (noted_elsewhere t.seat c e (λ q. let own : bit (t.seat == seat_of e) ≡ 1 = ap bit (eq-eqb t.seat (seat_of e) (sym q)) in absurd (omega arith))) in omega arith

  one_notes : (c : PoolCore) (e : Event) (ts : List SeatTrail) → count_by (is_of (seat_of e)) ts ≡ 1 → sum_by (noted_once c e) ts ≡ count_by p (noted c e)
  one_notes c e [] one = absurd (omega arith)
  one_notes c e (t ∷ ts) one = let a : count_by (is_of (seat_of e)) (t ∷ ts) ≡ bit (t.seat == seat_of e) + count_by (is_of (seat_of e)) ts = sum_by-cons (λ (u : SeatTrail). bit (is_of (seat_of e) u)) t ts in
      let b = sum_by-cons (noted_once c e) t ts in dite (ℕ_discrete t.seat (seat_of e))
      (λ same. let own : bit (t.seat == seat_of e) ≡ 1 = ap bit (eq-eqb t.seat (seat_of e) same) in let rest = none_notes c e ts (omega arith) in
      let here : noted_once c e t ≡ count_by p (noted c e) = ap (λ (os : List Operation). count_by p os) (noted_here t.seat c e (sym same)) in omega arith)
      (λ other. let own : bit (t.seat == seat_of e) ≡ 0 = ap bit (ne_eqb t.seat (seat_of e) other) in let rest = one_notes c e ts (omega arith) in
      let here : noted_once c e t ≡ 0 = ap (λ (os : List Operation). count_by p os) (noted_elsewhere t.seat c e (λ q. other (sym q))) in omega arith)

  -- trails of different seats, beside which no seat noted anything, have all that was noted
  all_in_trails : (ts : List SeatTrail) → ((s : ℕ) → count_by (is_of s) ts ≤ 1) → (c : PoolCore) (es : List Event) → ((s : ℕ) → count_by (is_of s) ts ≡ 0 → trail_of s c es ≡ []) → sum_by (noted_of c es) ts ≡ count_by p (all_noted c es)
  all_in_trails ts apart c [] silent = sum_of_none ts
  all_in_trails ts apart c (e ∷ es) silent = let s : ℕ = seat_of e in let next : PoolCore = core_after c e in
      let parts = sum_of_both (noted_of c (e ∷ es)) (noted_once c e) (noted_of next es) (λ t. sum_by-append (λ x. bit (p x)) (noted_by t.seat c e) (trail_of t.seat next es)) ts in
      let rest = all_in_trails ts apart next es (λ k none. (both_empty (noted_by k c e) (trail_of k next es) (silent k none)).1) in let one = apart s in
      let first : sum_by (noted_once c e) ts ≡ count_by p (noted c e) = dite (dec_le 1 (count_by (is_of s) ts))
      (λ some. one_notes c e ts (omega arith))
      (λ not_one. let none : count_by (is_of s) ts ≡ 0 = omega arith in
      none_notes c e ts none ∙ sym (ap (λ (os : List Operation). count_by p os) (sym (noted_here s c e refl) ∙ (both_empty (noted_by s c e) (trail_of s next es) (silent s none)).0))) in
      let whole : count_by p (all_noted c (e ∷ es)) ≡ count_by p (noted c e) + count_by p (all_noted next es) = sum_by-append (λ x. bit (p x)) (noted c e) (all_noted next es) in omega arith

-- each trail in the views is what its seat noted
trails_all : (opening : PoolCore) (events : List Event) (views : List PassView) → ((j : ℕ) (v : PassView) → get_elem? views j ≡ some v → is_away v.seat.stage ≡ false → All (IsTrail opening events) (trails_of v))
    → All (IsTrail opening events) (flat_map trails_in views)
trails_all opening events [] each = All-nil (IsTrail opening events)
trails_all opening events (v ∷ vs) each = let Is : SeatTrail → Type 0 = IsTrail opening events in
    let split : (b : Bool) → is_away v.seat.stage ≡ b → All Is (trails_in v) = elim [
      | true ↦ λ away. subst (All Is) (sym (ap (λ (b : Bool). if b then [] else trails_of v) away)) (All-nil Is)
      | false ↦ λ lives. subst (All Is) (sym (trails_here v lives)) (each 0 v refl lives)
    ] in All-append Is (trails_in v) (flat_map trails_in vs) (split (is_away v.seat.stage) refl) (trails_all opening events vs (λ j u at. each (suc j) u at))

-- all operations of the passes are all that was noted
pub operations_are_noted : (opening core : PoolCore) (views : List PassView) → (h : IsHistory opening core views) → (p : Operation → Bool) → count_by p (all_operations views) ≡ count_by p (all_noted opening h.events)
operations_are_noted opening core views h p = let ts : List SeatTrail = flat_map trails_in views in
    in_trails p opening h.events ts (trails_all opening h.events views h.each)
    ∙ all_in_trails p ts (λ s. let a = h.one_each s in let b = bit_le (ltb s (length views)) in omega arith) opening h.events
    (λ s none. dite (dec_le (length views) s) (λ past. h.unmade s past)
    (λ within. let a = h.one_each s in let b : bit (ltb s (length views)) ≡ 1 = ap bit (lt-ltb s (length views) (lt_of_not-le within)) in absurd (omega arith)))

module _ (p : Operation → Bool) where
  -- counted view by view
  pub count_by-operations : (views : List PassView) → count_by p (all_operations views) ≡ sum_by (λ v. count_by p (in_one (trails_in v))) views
  count_by-operations [] = refl
  count_by-operations (v ∷ vs) = let rest = count_by-operations vs in let a = sum_by-cons (λ (u : PassView). count_by p (in_one (trails_in u))) v vs in
      let b : count_by p (all_operations (v ∷ vs)) ≡ count_by p (in_one (trails_in v)) + count_by p (all_operations vs) =
      ap (λ (os : List Operation). count_by p os) (flat_map-append (λ (t : SeatTrail). t.trail) (trails_in v) (flat_map trails_in vs)) ∙ sum_by-append (λ x. bit (p x)) (in_one (trails_in v)) (all_operations vs) in omega arith
