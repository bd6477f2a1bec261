-- Steps on the count words are events.
use Rattle.std.proofs.Common.{◌≡◌, ℕ, ◌+◌, ◌-◌, ◌*◌, ◌%◌, ◌^◌, ◌<◌, ◌≤◌, Bool, true, false, true≢false, not, ltb, ◌||◌, length, get_or, set, refl, sym, ap, ◌∙◌, subst, arith, get_or-set_same, get_or-set_other}
use mathlib.Core.Option.{some}
use lib.ListN.{get_elem?}
use Rattle.std.specs.Prelude.{Option, Some}
use Rattle.std.proofs.lemmas.List.Sums.{count_by-le-length, get_or-le-sum_by}
use Rattle.atomic_table.specs.Table.{State as TableState, keeps, stepped}
use Rattle.std.proofs.lemmas.List.{set-get_or}
use Rattle.pool_core.specs.declared.words.State.{State}
use Rattle.pool_core.specs.declared.seats.Seat.{Seat}
use Rattle.pool_core.specs.declared.seats.Stage.TheVariants.{Unmade}
use Rattle.pool_core.specs.declared.events.Event.TheVariants.{WarmLoad, WarmUp, WarmDown, Stamp, AwaitUp, AwaitDown, AwaitLoad}
use Rattle.pool_core.specs.StateWords.{bit}
use Rattle.pool_core.specs.PoolCore.{PoolCore, seat_at, is_live, idle_seat}
use Rattle.pool_core.specs.EventEffects.{core_after}
use Rattle.pool_core.specs.RefusalRules.{refusal_of}
use Rattle.pool_core.specs.Lawful.{Lawful, is_free_warm, is_free_awaiting, has_permit, has_refusal, has_mark}
use Rattle.slot_words.specs.declared.views.PassView.{PassView}
use Rattle.slot_words.specs.declared.views.Bounds.{Bounds}
use Rattle.slot_words.specs.declared.views.Operation.TheVariants as operation
use Rattle.slot_words.specs.Views.{view_after}
use Rattle.slot_words.specs.Shows.{Shows}
use Rattle.slot_words.specs.Events.{WarmLoadsAreEvents, WarmUpsAreEvents, WarmDownsAreEvents, StampsAreEvents, AwaitUpsAreEvents, AwaitDownsAreEvents, AwaitLoadsAreEvents}
use Rattle.slot_words.proofs.Lookups.{live_not_away}
use Rattle.slot_words.proofs.ShownChanges.{core_recounted, shows_recounted, seat_here, seat_within}
use Rattle.slot_words.proofs.SlotEvents.{same_view}

-- a seat written as it was
reseated : (c : PoolCore) (s : ℕ) (p : Seat) → seat_at c s ≡ p → set c.seats s p ≡ c.seats
reseated c s p is = ap (λ (q : Seat). set c.seats s q) (sym is) ∙ set-get_or c.seats s (idle_seat Unmade)

may_warm_up : (c : PoolCore) (s n : ℕ) → is_live (seat_at c s).stage ≡ true → (seat_at c s).holds ≡ Some n → (seat_at c s).permit ≡ false → (seat_at c s).refusal ≡ false → refusal_of c (WarmUp s) ≡ 0
may_warm_up c s n live at p r = rw (live, at, p, r) refl

may_warm_down : (c : PoolCore) (s n : ℕ) → is_live (seat_at c s).stage ≡ true → (seat_at c s).holds ≡ Some n → ((seat_at c s).permit || (seat_at c s).refusal) ≡ true → refusal_of c (WarmDown s) ≡ 0
may_warm_down c s n live at has = rw (live, at, has) refl

may_stamp : (c : PoolCore) (s n : ℕ) → is_live (seat_at c s).stage ≡ true → (seat_at c s).holds ≡ Some n → refusal_of c (Stamp s) ≡ 0
may_stamp c s n live at = rw (live, at) refl

may_await_up : (c : PoolCore) (s n : ℕ) → is_live (seat_at c s).stage ≡ true → (seat_at c s).holds ≡ Some n → (seat_at c s).mark ≡ false → refusal_of c (AwaitUp s) ≡ 0
may_await_up c s n live at m = rw (live, at, m) refl

may_await_down : (c : PoolCore) (s n : ℕ) → is_live (seat_at c s).stage ≡ true → (seat_at c s).holds ≡ Some n → (seat_at c s).mark ≡ true → refusal_of c (AwaitDown s) ≡ 0
may_await_down c s n live at m = rw (live, at, m) refl

may_warm_load : (c : PoolCore) (s : ℕ) → is_live (seat_at c s).stage ≡ true → refusal_of c (WarmLoad s) ≡ 0
may_warm_load c s live = rw (live) refl

may_await_load : (c : PoolCore) (s : ℕ) → is_live (seat_at c s).stage ≡ true → refusal_of c (AwaitLoad s) ≡ 0
may_await_load c s live = rw (live) refl

module _ (c : PoolCore) (passes : ℕ) (law : Lawful c) (seats_are : length c.seats ≡ passes) (countable : length c.words + 2 * passes < 2 ^ 63) where
  -- the counts never wrap
  warm_small : c.warm + 1 < 2 ^ 64
  warm_small = let a = count_by-le-length is_free_warm c.words in let b = count_by-le-length has_permit c.seats in let d = count_by-le-length has_refusal c.seats in let w = law.warm in omega arith

  await_small : c.awaiting + 1 < 2 ^ 64
  await_small = let a = count_by-le-length is_free_awaiting c.words in let b = count_by-le-length has_mark c.seats in let w = law.awaiting in omega arith

-- a permit, a refusal or a mark is counted
warm_positive : (c : PoolCore) (s : ℕ) → Lawful c → s < length c.seats → ((seat_at c s).permit || (seat_at c s).refusal) ≡ true → 1 ≤ c.warm
warm_positive c s law here has = let a = get_or-le-sum_by (λ (p : Seat). bit (has_permit p)) c.seats s (idle_seat Unmade) here in let b = get_or-le-sum_by (λ (p : Seat). bit (has_refusal p)) c.seats s (idle_seat Unmade) here in let w = law.warm in
    let one : (x y : Bool) → (x || y) ≡ true → 1 ≤ bit x + bit y = elim [ true ↦ λ y e. omega arith | false ↦ elim [ true ↦ λ e. omega arith | false ↦ λ e. absurd (true≢false (sym e)) ] ] in
    let o = one (seat_at c s).permit (seat_at c s).refusal has in omega arith

await_positive : (c : PoolCore) (s : ℕ) → Lawful c → s < length c.seats → (seat_at c s).mark ≡ true → 1 ≤ c.awaiting
await_positive c s law here has = let a = get_or-le-sum_by (λ (p : Seat). bit (has_mark p)) c.seats s (idle_seat Unmade) here in let w = law.awaiting in let o : bit (seat_at c s).mark ≡ 1 = ap bit has in omega arith

-- the warm word is the first past the slots' words
here : (n : ℕ) → n ≡ n + 0
here n = omega arith

-- one up and one down on 64 bits
up : (x : ℕ) → x + 1 < 2 ^ 64 → (x + 1) % 2 ^ 64 ≡ x + 1
up x small = omega arith

down : (x : ℕ) → 1 ≤ x → x < 2 ^ 64 → (x + (2 ^ 64 - 1)) % 2 ^ 64 ≡ x - 1
down x positive small = omega arith

module _ {V : Type 0} (fits : State → ℕ → V → Type 0) (bounds : Bounds) (core : PoolCore) (s : TableState (Option V) PassView) (shows : Shows fits bounds core s) (slots id : ℕ) (v : PassView)
    (wide : length s.homes ≡ slots) (at : get_elem? s.views id ≡ some v) (live : is_live v.seat.stage ≡ true) where
  slots_is : length core.words ≡ slots
  slots_is = sym shows.slots_are ∙ wide

  -- a step on the warm word
  on_warm : (x : ℕ) (q : Seat) (o : _) → q.stage ≡ v.seat.stage → (v.seat.out ≡ false → q.out ≡ false)
      → Shows fits bounds (core_recounted core id q x core.awaiting core.clock) record { words = set s.words slots x; homes = s.homes; views = set s.views id (view_after v q o) }
  on_warm x q o stays inside = let is = slots_is in let ww = shows.words_are in
      shows_recounted fits bounds core s shows id slots x v (view_after v q o) x core.awaiting core.clock at live (omega arith) (same_view v q o stays inside)
      (ap (λ (j : ℕ). get_or (set s.words slots x) j 0) is ∙ get_or-set_same s.words slots x 0 (omega arith))
      (get_or-set_other s.words slots (length core.words + 1) x 0 (λ e. omega arith) ∙ shows.await_shows)
      (get_or-set_other s.words slots (length core.words + 2) x 0 (λ e. omega arith) ∙ shows.clock_shows)

  -- a step on the await word
  on_await : (x : ℕ) (q : Seat) (o : _) → q.stage ≡ v.seat.stage → (v.seat.out ≡ false → q.out ≡ false)
      → Shows fits bounds (core_recounted core id q core.warm x core.clock) record { words = set s.words (slots + 1) x; homes = s.homes; views = set s.views id (view_after v q o) }
  on_await x q o stays inside = let is = slots_is in let ww = shows.words_are in
      shows_recounted fits bounds core s shows id (slots + 1) x v (view_after v q o) core.warm x core.clock at live (omega arith) (same_view v q o stays inside)
      (get_or-set_other s.words (slots + 1) (length core.words) x 0 (λ e. omega arith) ∙ shows.warm_shows)
      (ap (λ (j : ℕ). get_or (set s.words (slots + 1) x) (j + 1) 0) is ∙ get_or-set_same s.words (slots + 1) x 0 (omega arith))
      (get_or-set_other s.words (slots + 1) (length core.words + 2) x 0 (λ e. omega arith) ∙ shows.clock_shows)

  -- a step on the clock word
  on_clock : (x : ℕ) (q : Seat) (o : _) → q.stage ≡ v.seat.stage → (v.seat.out ≡ false → q.out ≡ false)
      → Shows fits bounds (core_recounted core id q core.warm core.awaiting x) record { words = set s.words (slots + 2) x; homes = s.homes; views = set s.views id (view_after v q o) }
  on_clock x q o stays inside = let is = slots_is in let ww = shows.words_are in
      shows_recounted fits bounds core s shows id (slots + 2) x v (view_after v q o) core.warm core.awaiting x at live (omega arith) (same_view v q o stays inside)
      (get_or-set_other s.words (slots + 2) (length core.words) x 0 (λ e. omega arith) ∙ shows.warm_shows)
      (get_or-set_other s.words (slots + 2) (length core.words + 1) x 0 (λ e. omega arith) ∙ shows.await_shows)
      (ap (λ (j : ℕ). get_or (set s.words (slots + 2) x) (j + 2) 0) is ∙ get_or-set_same s.words (slots + 2) x 0 (omega arith))

  warm_read : get_or s.words slots 0 ≡ core.warm
  warm_read = ap (λ (k : ℕ). get_or s.words k 0) (sym slots_is) ∙ shows.warm_shows

  await_read : get_or s.words (slots + 1) 0 ≡ core.awaiting
  await_read = ap (λ (k : ℕ). get_or s.words (k + 1) 0) (sym slots_is) ∙ shows.await_shows

  clock_read : get_or s.words (slots + 2) 0 ≡ core.clock
  clock_read = ap (λ (k : ℕ). get_or s.words (k + 2) 0) (sym slots_is) ∙ shows.clock_shows

module _ {V : Type 0} (fits : State → ℕ → V → Type 0) where
  pub warm_loads_are_events : WarmLoadsAreEvents fits
  warm_loads_are_events slots id me live bounds core s law shows wide at =
      let seat = seat_here fits bounds core s shows id me.0 at in
      let x : ℕ = get_or s.words slots 0 in let u : PassView = view_after me.0 me.0.seat (operation.WarmLoad x) in
      let x_is : x ≡ core.warm = warm_read fits bounds core s shows slots id me.0 wide at live in
      let to : core_recounted core id me.0.seat x core.awaiting core.clock ≡ core = λ i. record core { seats = reseated core id me.0.seat seat i; warm = x_is i } in (
        may_warm_load core id (ap (λ (p : Seat). is_live p.stage) seat ∙ live),
        (
          u,
          keeps,
          tt,
          subst (λ (c : PoolCore). Shows fits bounds c (stepped s slots x id me.1 u keeps)) to
              (on_warm fits bounds core s shows slots id me.0 wide at live x me.0.seat (operation.WarmLoad x) refl (λ e. e)),
          record { word_is = here slots; amount_is = refl; notes = (refl, refl) },
        ),
      )

  pub await_loads_are_events : AwaitLoadsAreEvents fits
  await_loads_are_events slots id me live bounds core s law shows wide at =
      let seat = seat_here fits bounds core s shows id me.0 at in
      let x : ℕ = get_or s.words (slots + 1) 0 in let u : PassView = view_after me.0 me.0.seat (operation.AwaitLoad x) in
      let x_is : x ≡ core.awaiting = await_read fits bounds core s shows slots id me.0 wide at live in
      let to : core_recounted core id me.0.seat core.warm x core.clock ≡ core = λ i. record core { seats = reseated core id me.0.seat seat i; awaiting = x_is i } in (
        may_await_load core id (ap (λ (p : Seat). is_live p.stage) seat ∙ live),
        (
          u,
          keeps,
          tt,
          subst (λ (c : PoolCore). Shows fits bounds c (stepped s (slots + 1) x id me.1 u keeps)) to
              (on_await fits bounds core s shows slots id me.0 wide at live x me.0.seat (operation.AwaitLoad x) refl (λ e. e)),
          record { word_is = refl; amount_is = refl; notes = (refl, refl) },
        ),
      )

  pub warm_ups_are_events : WarmUpsAreEvents fits
  warm_ups_are_events slots id n me live holds no_permit no_refusal bounds core s law shows wide at =
      let seat = seat_here fits bounds core s shows id me.0 at in
      let x : ℕ = get_or s.words slots 0 in
      let x_is : x ≡ core.warm = warm_read fits bounds core s shows slots id me.0 wide at live in
      let small : x + 1 < 2 ^ 64 = let w = warm_small core bounds.passes law shows.seats_are shows.countable in omega arith in
      let y : ℕ = (x + 1) % 2 ^ 64 in let y_is : y ≡ core.warm + 1 = up x small ∙ ap (λ (k : ℕ). k + 1) x_is in
      let k = (shows.each id me.0 at).bounds_is (live_not_away me.0.seat.stage live) in
      let lim : me.0.bounds.limit ≡ core.limit = ap (λ (j : Bounds). j.limit) k ∙ sym shows.limit_is in
      let t : Bool = ltb x me.0.bounds.limit in
      let q : Seat = record (me.0.seat) { permit = t; refusal = not t } in
      let u : PassView = view_after me.0 q (operation.WarmUp x) in
      let same_test : t ≡ ltb core.warm core.limit = ap (λ (q : ℕ × ℕ). ltb q.0 q.1) (λ i. (x_is i, lim i)) in
      let to : core_recounted core id q y core.awaiting core.clock ≡ core_after core (WarmUp id) = λ i. record core { seats = set core.seats id (record (sym seat i) { permit = same_test i; refusal = not (same_test i) }); warm = y_is i } in (
        may_warm_up core id n (ap (λ (p : Seat). is_live p.stage) seat ∙ live) (ap (λ (p : Seat). p.holds) seat ∙ holds) (ap (λ (p : Seat). p.permit) seat ∙ no_permit) (ap (λ (p : Seat). p.refusal) seat ∙ no_refusal),
        (
          u,
          keeps,
          tt,
          subst (λ (c : PoolCore). Shows fits bounds c (stepped s slots y id me.1 u keeps)) to
              (on_warm fits bounds core s shows slots id me.0 wide at live y q (operation.WarmUp x) refl (λ e. e)),
          record { word_is = here slots; amount_is = refl; notes = (refl, refl) },
        ),
      )

  pub warm_downs_are_events : WarmDownsAreEvents fits
  warm_downs_are_events slots id n me live holds has bounds core s law shows wide at =
      let seat = seat_here fits bounds core s shows id me.0 at in
      let has' : ((seat_at core id).permit || (seat_at core id).refusal) ≡ true = ap (λ (p : Seat). p.permit || p.refusal) seat ∙ has in
      let x : ℕ = get_or s.words slots 0 in
      let x_is : x ≡ core.warm = warm_read fits bounds core s shows slots id me.0 wide at live in
      let some_warm : 1 ≤ core.warm = warm_positive core id law (seat_within fits bounds core s shows id me.0 at live) has' in
      let small = warm_small core bounds.passes law shows.seats_are shows.countable in
      let y : ℕ = (x + (2 ^ 64 - 1)) % 2 ^ 64 in let y_is : y ≡ core.warm - 1 = down x (omega arith) (omega arith) ∙ ap (λ (k : ℕ). k - 1) x_is in
      let q : Seat = record (me.0.seat) { permit = false; refusal = false } in
      let u : PassView = view_after me.0 q (operation.WarmDown x) in
      let to : core_recounted core id q y core.awaiting core.clock ≡ core_after core (WarmDown id) = λ i. record core { seats = set core.seats id (record (sym seat i) { permit = false; refusal = false }); warm = y_is i } in (
        may_warm_down core id n (ap (λ (p : Seat). is_live p.stage) seat ∙ live) (ap (λ (p : Seat). p.holds) seat ∙ holds) has',
        (
          u,
          keeps,
          tt,
          subst (λ (c : PoolCore). Shows fits bounds c (stepped s slots y id me.1 u keeps)) to
              (on_warm fits bounds core s shows slots id me.0 wide at live y q (operation.WarmDown x) refl (λ e. e)),
          record { word_is = here slots; amount_is = refl; notes = (refl, refl) },
        ),
      )

  pub stamps_are_events : StampsAreEvents fits
  stamps_are_events slots id n me live holds bounds core s law shows wide at =
      let seat = seat_here fits bounds core s shows id me.0 at in
      let x : ℕ = get_or s.words (slots + 2) 0 in
      let x_is : x ≡ core.clock = clock_read fits bounds core s shows slots id me.0 wide at live in
      let y : ℕ = (x + 1) % 2 ^ 64 in
      let u : PassView = view_after me.0 me.0.seat (operation.Stamp x) in
      let to : core_recounted core id me.0.seat core.warm core.awaiting y ≡ core_after core (Stamp id) = λ i. record core { seats = reseated core id me.0.seat seat i; clock = (x_is i + 1) % 2 ^ 64 } in (
        may_stamp core id n (ap (λ (p : Seat). is_live p.stage) seat ∙ live) (ap (λ (p : Seat). p.holds) seat ∙ holds),
        (
          u,
          keeps,
          tt,
          subst (λ (c : PoolCore). Shows fits bounds c (stepped s (slots + 2) y id me.1 u keeps)) to
              (on_clock fits bounds core s shows slots id me.0 wide at live y me.0.seat (operation.Stamp x) refl (λ e. e)),
          record { word_is = refl; amount_is = refl; notes = (refl, refl) },
        ),
      )

  pub await_ups_are_events : AwaitUpsAreEvents fits
  await_ups_are_events slots id n me live holds unmarked bounds core s law shows wide at =
      let seat = seat_here fits bounds core s shows id me.0 at in
      let x : ℕ = get_or s.words (slots + 1) 0 in
      let x_is : x ≡ core.awaiting = await_read fits bounds core s shows slots id me.0 wide at live in
      let small : x + 1 < 2 ^ 64 = let w = await_small core bounds.passes law shows.seats_are shows.countable in omega arith in
      let y : ℕ = (x + 1) % 2 ^ 64 in let y_is : y ≡ core.awaiting + 1 = up x small ∙ ap (λ (k : ℕ). k + 1) x_is in
      let q : Seat = record (me.0.seat) { mark = true } in
      let u : PassView = view_after me.0 q (operation.AwaitUp x) in
      let to : core_recounted core id q core.warm y core.clock ≡ core_after core (AwaitUp id) = λ i. record core { seats = set core.seats id (record (sym seat i) { mark = true }); awaiting = y_is i } in (
        may_await_up core id n (ap (λ (p : Seat). is_live p.stage) seat ∙ live) (ap (λ (p : Seat). p.holds) seat ∙ holds) (ap (λ (p : Seat). p.mark) seat ∙ unmarked),
        (
          u,
          keeps,
          tt,
          subst (λ (c : PoolCore). Shows fits bounds c (stepped s (slots + 1) y id me.1 u keeps)) to
              (on_await fits bounds core s shows slots id me.0 wide at live y q (operation.AwaitUp x) refl (λ e. e)),
          record { word_is = refl; amount_is = refl; notes = (refl, refl) },
        ),
      )

  pub await_downs_are_events : AwaitDownsAreEvents fits
  await_downs_are_events slots id n me live holds marked bounds core s law shows wide at =
      let seat = seat_here fits bounds core s shows id me.0 at in
      let marked' : (seat_at core id).mark ≡ true = ap (λ (p : Seat). p.mark) seat ∙ marked in
      let x : ℕ = get_or s.words (slots + 1) 0 in
      let x_is : x ≡ core.awaiting = await_read fits bounds core s shows slots id me.0 wide at live in
      let some_await : 1 ≤ core.awaiting = await_positive core id law (seat_within fits bounds core s shows id me.0 at live) marked' in
      let small = await_small core bounds.passes law shows.seats_are shows.countable in
      let y : ℕ = (x + (2 ^ 64 - 1)) % 2 ^ 64 in let y_is : y ≡ core.awaiting - 1 = down x (omega arith) (omega arith) ∙ ap (λ (k : ℕ). k - 1) x_is in
      let q : Seat = record (me.0.seat) { mark = false } in
      let u : PassView = view_after me.0 q (operation.AwaitDown x) in
      let to : core_recounted core id q core.warm y core.clock ≡ core_after core (AwaitDown id) = λ i. record core { seats = set core.seats id (record (sym seat i) { mark = false }); awaiting = y_is i } in (
        may_await_down core id n (ap (λ (p : Seat). is_live p.stage) seat ∙ live) (ap (λ (p : Seat). p.holds) seat ∙ holds) marked',
        (
          u,
          keeps,
          tt,
          subst (λ (c : PoolCore). Shows fits bounds c (stepped s (slots + 1) y id me.1 u keeps)) to
              (on_await fits bounds core s shows slots id me.0 wide at live y q (operation.AwaitDown x) refl (λ e. e)),
          record { word_is = refl; amount_is = refl; notes = (refl, refl) },
        ),
      )
