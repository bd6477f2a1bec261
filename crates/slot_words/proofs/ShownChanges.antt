-- What the table shows after a change of one word and one view.
use Rattle.std.proofs.Common.{◌≡◌, ◌≢◌, ℕ, ◌+◌, ◌*◌, ◌^◌, ◌<◌, ◌≤◌, ⊎_elim, true, false, List, length, get_or, set, refl, sym, ap, ◌∙◌, subst, arith, length-set, get_or-set_same, get_or-set_other}
use mathlib.Core.Logic.{dite}
use mathlib.Core.Option.{none, some}
use mathlib.Core.Option as maybe
use native.Mathlib.Decide.{ℕ_discrete}
use lib.ListN.{get_elem?}
use Rattle.std.specs.Prelude.{Option, Some}
use Rattle.atomic_table.specs.Table.{State as TableState}
use Rattle.atomic_table.proofs.Lists.{at_set}
use Rattle.pool_core.specs.declared.words.State.{State}
use Rattle.pool_core.specs.declared.words.StateWord.{StateWord}
use Rattle.pool_core.specs.declared.seats.Seat.{Seat}
use Rattle.pool_core.specs.declared.seats.Stage.TheVariants.{Unmade}
use Rattle.pool_core.specs.StateWords.{packed, cold_word}
use Rattle.pool_core.specs.PoolCore.{PoolCore, seat_at, is_live, is_away, idle_seat}
use Rattle.pool_core.specs.EventEffects.{with_seat, with_word}
use Rattle.slot_words.specs.declared.views.PassView.{PassView}
use Rattle.slot_words.specs.declared.views.Bounds.{Bounds}
use Rattle.slot_words.specs.Views.{no_view}
use Rattle.slot_words.specs.Shows.{IsCounted, Shows, view_share, view_unsplit}
use Rattle.slot_words.proofs.Lookups.{found, tested_inside}
use Rattle.slot_words.proofs.SharedPasses.{shared_after_step}

-- the core with one seat, one word and the counts changed
abbrev pub core_changed : PoolCore → ℕ → Seat → ℕ → StateWord → PoolCore
core_changed c s q n v = with_seat (with_word c n v) s q

-- the core with one seat and the counts changed
abbrev pub core_recounted : PoolCore → ℕ → Seat → ℕ → ℕ → ℕ → PoolCore
core_recounted c s q warm awaiting clock = record c { seats = set c.seats s q; warm = warm; awaiting = awaiting; clock = clock }

-- the view is the same but for its trail and its seat
pub record IsSameView (v w : PassView) : Type 0 where
  pub bounds_is : w.bounds ≡ v.bounds
  pub unsplit_is : w.unsplit ≡ v.unsplit
  pub share_is : w.share ≡ v.share
  pub joined_is : w.joined ≡ v.joined
  pub stage_is : w.seat.stage ≡ v.seat.stage
  pub inside : v.seat.out ≡ false → w.seat.out ≡ false

module _ {V : Type 0} (fits : State → ℕ → V → Type 0) (bounds : Bounds) where
  abbrev S : Type 0
  S = TableState (Option V) PassView

  -- the seat that a view shows
  pub seat_here : (c : PoolCore) (s : S) → Shows fits bounds c s → (id : ℕ) (me : PassView) → get_elem? s.views id ≡ some me → seat_at c id ≡ me.seat
  seat_here c s o id me at = o.seat_shows id ∙ ap (λ (k : PassView). k.seat) (found s.views id me no_view at).1

  pub seat_within : (c : PoolCore) (s : S) → Shows fits bounds c s → (id : ℕ) (me : PassView) → get_elem? s.views id ≡ some me → is_live me.seat.stage ≡ true → id < length c.seats
  seat_within c s o id me at live = tested_inside (λ (p : Seat). is_live p.stage) (idle_seat Unmade) refl c.seats id (ap (λ (p : Seat). is_live p.stage) (seat_here c s o id me at) ∙ live)

  -- each view is still counted
  each_counted : (c : PoolCore) (s : S) → Shows fits bounds c s → (id : ℕ) (me w : PassView) → get_elem? s.views id ≡ some me → IsSameView me w
      → (j : ℕ) (u : PassView) → get_elem? (set s.views id w) j ≡ some u → IsCounted bounds u
  each_counted c s o id me w at same j u e = ⊎_elim
      (λ (t : (j ≡ id) × (w ≡ u)). let v = o.each id me at in subst (IsCounted bounds) t.1 record {
        inside = same.inside v.inside;
        bounds_is = λ l. same.bounds_is ∙ v.bounds_is (sym (ap is_away same.stage_is) ∙ l);
        share_is = λ l. let own = v.share_is (sym (ap is_away same.stage_is) ∙ l) in let joined : length w.joined ≡ length me.joined = ap length same.joined_is in let a = same.share_is in let b = same.unsplit_is in omega arith;
      })
      (λ (t : (j ≢ id) × (get_elem? s.views j ≡ some u)). o.each j u t.1) (at_set s.views id j w u e)

  -- each seat is still shown
  seats_shown : (c : PoolCore) (s : S) → Shows fits bounds c s → (id : ℕ) (me w : PassView) → get_elem? s.views id ≡ some me → is_live me.seat.stage ≡ true
      → (j : ℕ) → get_or (set c.seats id w.seat) j (idle_seat Unmade) ≡ (get_or (set s.views id w) j no_view).seat
  seats_shown c s o id me w at live j = let here = seat_within c s o id me at live in let inside = (found s.views id me no_view at).0 in dite (ℕ_discrete j id)
      (λ e. ap (λ (k : ℕ). get_or (set c.seats id w.seat) k (idle_seat Unmade)) e ∙ get_or-set_same c.seats id w.seat (idle_seat Unmade) here
      ∙ sym (ap (λ (k : ℕ). (get_or (set s.views id w) k no_view).seat) e ∙ ap (λ (k : PassView). k.seat) (get_or-set_same s.views id w no_view inside)))
      (λ e. get_or-set_other c.seats id j w.seat (idle_seat Unmade) e ∙ o.seat_shows j ∙ ap (λ (k : PassView). k.seat) (sym (get_or-set_other s.views id j w no_view e)))

  -- one state word and one view change, and the slots of no other number
  pub shows_changed : (c : PoolCore) (s : S) → Shows fits bounds c s → (id n x : ℕ) (me w : PassView) (v : StateWord) (homes : List (maybe.Option (Option V)))
      → get_elem? s.views id ≡ some me → n < length c.words → is_live me.seat.stage ≡ true → IsSameView me w
      → x ≡ packed v → length homes ≡ length s.homes → ((m : ℕ) → m ≢ n → get_elem? homes m ≡ get_elem? s.homes m)
      → (v.held ≡ false → (y : V) × (get_elem? homes n ≡ some (some (Some y))) × fits v.target.state v.target.tag y)
      → (v.held ≡ true → get_elem? homes n ≡ some none)
      → Shows fits bounds (core_changed c id w.seat n v) record { words = set s.words n x; homes = homes; views = set s.views id w }
  shows_changed c s o id n x me w v homes at there live same is long others own gone =
      let ws : List StateWord = c.words in let wide = o.words_are in
      let lw : length (set ws n v) ≡ length ws = length-set ws n v in
      record {
        limit_is = o.limit_is;
        countable = subst (λ (k : ℕ). k + 2 * bounds.passes < 2 ^ 63) (sym lw) o.countable;
        seats_are = length-set c.seats id w.seat ∙ o.seats_are;
        words_are = length-set s.words n x ∙ o.words_are ∙ ap (λ (k : ℕ). k + 3) (sym lw);
        slots_are = long ∙ o.slots_are ∙ sym lw;
        word_shows = λ m h. dite (ℕ_discrete m n)
            (λ e. ap (λ (k : ℕ). get_or (set s.words n x) k 0) e ∙ get_or-set_same s.words n x 0 (omega arith) ∙ is ∙ ap packed (sym (ap (λ (k : ℕ). get_or (set ws n v) k cold_word) e ∙ get_or-set_same ws n v cold_word there)))
            (λ e. get_or-set_other s.words n m x 0 e ∙ o.word_shows m (omega arith) ∙ ap packed (sym (get_or-set_other ws n m v cold_word e)));
        warm_shows = ap (λ (k : ℕ). get_or (set s.words n x) k 0) lw ∙ get_or-set_other s.words n (length ws) x 0 (λ e. omega arith) ∙ o.warm_shows;
        await_shows = ap (λ (k : ℕ). get_or (set s.words n x) (k + 1) 0) lw ∙ get_or-set_other s.words n (length ws + 1) x 0 (λ e. omega arith) ∙ o.await_shows;
        clock_shows = ap (λ (k : ℕ). get_or (set s.words n x) (k + 2) 0) lw ∙ get_or-set_other s.words n (length ws + 2) x 0 (λ e. omega arith) ∙ o.clock_shows;
        seat_shows = seats_shown c s o id me w at live;
        at_home = λ m h free. dite (ℕ_discrete m n)
            (λ e.
            let vm : get_or (set ws n v) m cold_word ≡ v = ap (λ (k : ℕ). get_or (set ws n v) k cold_word) e ∙ get_or-set_same ws n v cold_word there in
            let y = own (ap (λ (u : StateWord). u.held) (sym vm) ∙ free) in
            (y.0, ap (λ (k : ℕ). get_elem? homes k) e ∙ y.1, subst (λ (u : StateWord). fits u.target.state u.target.tag y.0) (sym vm) y.2))
            (λ e.
            let vm : get_or (set ws n v) m cold_word ≡ get_or ws m cold_word = get_or-set_other ws n m v cold_word e in
            let y = o.at_home m (omega arith) (ap (λ (u : StateWord). u.held) (sym vm) ∙ free) in
            (y.0, others m e ∙ y.1, subst (λ (u : StateWord). fits u.target.state u.target.tag y.0) (sym vm) y.2));
        away = λ m h held. dite (ℕ_discrete m n)
            (λ e. ap (λ (k : ℕ). get_elem? homes k) e ∙ gone (ap (λ (u : StateWord). u.held) (sym (ap (λ (k : ℕ). get_or (set ws n v) k cold_word) e ∙ get_or-set_same ws n v cold_word there)) ∙ held))
            (λ e. others m e ∙ o.away m (omega arith) (ap (λ (u : StateWord). u.held) (sym (get_or-set_other ws n m v cold_word e)) ∙ held));
        shared = shared_after_step no_view view_share view_unsplit bounds.passes s.views id me w at same.share_is same.unsplit_is o.shared;
        each = each_counted c s o id me w at same;
      }

  -- one count word and one view change
  pub shows_recounted : (c : PoolCore) (s : S) → Shows fits bounds c s → (id i x : ℕ) (me w : PassView) (warm awaiting clock : ℕ)
      → get_elem? s.views id ≡ some me → is_live me.seat.stage ≡ true → length c.words ≤ i → IsSameView me w
      → get_or (set s.words i x) (length c.words) 0 ≡ warm → get_or (set s.words i x) (length c.words + 1) 0 ≡ awaiting → get_or (set s.words i x) (length c.words + 2) 0 ≡ clock
      → Shows fits bounds (core_recounted c id w.seat warm awaiting clock) record { words = set s.words i x; homes = s.homes; views = set s.views id w }
  shows_recounted c s o id i x me w warm awaiting clock at live past same w1 w2 w3 =
      record {
        limit_is = o.limit_is;
        countable = o.countable;
        seats_are = length-set c.seats id w.seat ∙ o.seats_are;
        words_are = length-set s.words i x ∙ o.words_are;
        slots_are = o.slots_are;
        word_shows = λ m h. get_or-set_other s.words i m x 0 (λ e. omega arith) ∙ o.word_shows m h;
        warm_shows = w1;
        await_shows = w2;
        clock_shows = w3;
        seat_shows = seats_shown c s o id me w at live;
        at_home = o.at_home;
        away = o.away;
        shared = shared_after_step no_view view_share view_unsplit bounds.passes s.views id me w at same.share_is same.unsplit_is o.shared;
        each = each_counted c s o id me w at same;
      }
