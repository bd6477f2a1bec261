-- Beside a held word of another pass, no pass stands for all.
use Rattle.std.proofs.Common.{◌≡◌, ◌≢◌, ℕ, ◌<◌, ◌≤◌, Bool, true, false, length, get_or, refl, sym, ap, ◌∙◌, arith, lt_of_not-le}
use mathlib.Core.Option.{some}
use mathlib.Core.Logic.{dite}
use lib.ListN.{get_elem?}
use native.Mathlib.Decide.{dec_le}
use Rattle.std.specs.Prelude.{Option, Some, None}
use Rattle.std.proofs.lemmas.List.{get_or_past, get_or_default}
use Rattle.atomic_table.specs.Table.{State as TableState}
use Rattle.atomic_table.proofs.Lists.{at_index}
use Rattle.pool_core.specs.declared.words.State.{State}
use Rattle.pool_core.specs.declared.seats.Seat.{Seat}
use Rattle.pool_core.specs.PoolCore.{PoolCore, word_at, is_away}
use Rattle.pool_core.specs.Lawful.{Lawful}
use Rattle.slot_words.specs.declared.views.PassView.{PassView}
use Rattle.slot_words.specs.declared.views.Bounds.{Bounds}
use Rattle.slot_words.specs.CoreLaws.{CoreLaws}
use Rattle.slot_words.specs.Views.{no_view}
use Rattle.slot_words.specs.Shows.{Shows, shown_seat, view_share, view_unsplit}
use Rattle.slot_words.proofs.Lookups.{found}
use Rattle.slot_words.proofs.SharedPasses.{shared_beside}

stays_of : (b : Bool) (n : ℕ) (h : Option ℕ) → (b ≡ true → h ≡ None) → h ≡ Some n → b ≡ false
stays_of false n h f e = refl
stays_of true n h f e = let gone : None ≡ Some n = sym (f refl) ∙ e in cc

module _ {V : Type 0} (fits : State → ℕ → V → Type 0) (bounds : Bounds) where
  -- a number that is not away is one of the views, and that view stands for a pass at least
  pub counted_at : (c : PoolCore) (s : TableState (Option V) PassView) → Shows fits bounds c s → (j : ℕ) → is_away (shown_seat s.views j).stage ≡ false → 1 ≤ (get_or s.views j no_view).share
  counted_at c s o j here = let y : PassView = get_or s.views j no_view in
      dite (dec_le (length s.views) j)
      (λ past. let gone : true ≡ false = sym (ap (λ (k : PassView). is_away k.seat.stage) (get_or_past s.views j no_view past)) ∙ here in cc)
      (λ within. let all = (o.each j y (at_index s.views j y (lt_of_not-le within) (get_or_default s.views j no_view y (lt_of_not-le within)))).share_is here in omega arith)

module _ (laws : CoreLaws) {V : Type 0} (fits : State → ℕ → V → Type 0) (bounds : Bounds) where
  -- a held word has a holder, and it is another than a pass that holds nothing
  pub another_holds : (c : PoolCore) (s : TableState (Option V) PassView) → Lawful c → Shows fits bounds c s → (n i : ℕ) → (word_at c n).held ≡ true → (shown_seat s.views i).holds ≡ None
      → (j : ℕ) × (j ≢ i) × ((shown_seat s.views j).holds ≡ Some n)
  another_holds c s law o n i held none = let holder = laws.held c n law held in
      let theirs : (shown_seat s.views holder.0).holds ≡ Some n = ap (λ (p : Seat). p.holds) (sym (o.seat_shows holder.0)) ∙ holder.1 in
      (holder.0, (λ e. let same : None ≡ Some n = sym none ∙ ap (λ (k : ℕ). (shown_seat s.views k).holds) (sym e) ∙ theirs in cc), theirs)

  pub share_below : (c : PoolCore) (s : TableState (Option V) PassView) → Lawful c → Shows fits bounds c s → (id n : ℕ) (v : PassView)
      → get_elem? s.views id ≡ some v → v.seat.holds ≡ None → (word_at c n).held ≡ true → v.share < bounds.passes
  share_below c s law o id n v at none held = let was : get_or s.views id no_view ≡ v = (found s.views id v no_view at).1 in
      let other = another_holds c s law o n id held (ap (λ (k : PassView). k.seat.holds) was ∙ none) in let j : ℕ = other.0 in
      let stays : is_away (shown_seat s.views j).stage ≡ false = stays_of (is_away (shown_seat s.views j).stage) n (shown_seat s.views j).holds
      (λ e. ap (λ (p : Seat). p.holds) (sym (o.seat_shows j)) ∙ (law.seats j).away (ap (λ (p : Seat). is_away p.stage) (o.seat_shows j) ∙ e)) other.2 in
      let one = counted_at fits bounds c s o j stays in
      let both = shared_beside no_view view_share view_unsplit bounds.passes s.views id j v refl at other.1 o.shared in omega arith
