-- Each step of a pass is one event of the core that is shown.
use Rattle.std.specs.Prelude.{◌≡◌, ℕ, ◌<◌, ◌≤◌, ◌+◌, ◌-◌, ◌%◌, ◌^◌, ◌||◌, true, false, Option, Some, [], ◌∷◌, ◌++◌, length, slice_index, slice_set, bit_or}
use mathlib.Core.Option.{none, some}
use lib.ListN.{get_elem?}
use Rattle.atomic_table.specs.Table.{State as TableState, Act, Valid, stepped, carried_after, step}
use Rattle.pool_core.specs.declared.events.Event.{Event}
use Rattle.pool_core.specs.declared.events.Event.TheVariants.{Load, Claim, Out, Home, Release, Split, Join, Close, WarmLoad, WarmUp, WarmDown, Stamp, AwaitUp, AwaitDown, AwaitLoad}
use Rattle.pool_core.specs.declared.words.State.{State}
use Rattle.pool_core.specs.declared.words.Target.{Target}
use Rattle.pool_core.specs.StateWords.{is_warm, is_awaiting, is_well_formed, packed, free_word}
use Rattle.pool_core.specs.declared.seats.Stage.TheVariants.{Live}
use Rattle.pool_core.specs.PoolCore.{PoolCore, seat_at, idle_seat, holding_seat, is_live}
use Rattle.pool_core.specs.EventEffects.{core_after}
use Rattle.pool_core.specs.RefusalRules.{refusal_of}
use Rattle.pool_core.specs.Lawful.{Lawful}
use Rattle.pool_core.specs.Changes.{uses_value_of}
use Rattle.slot_words.specs.declared.views.PassView.{PassView}
use Rattle.slot_words.specs.declared.views.Bounds.{Bounds}
use Rattle.slot_words.specs.Views.{view_left, view_given, view_joined, spent_view}
use Rattle.slot_words.specs.Shows.{Shows}
use Rattle.slot_words.specs.Outcomes.{Carrier, Loads, Claims, Releases, LoadsWarm, WarmsUp, WarmsDown, Stamps, AwaitsUp, AwaitsDown, LoadsAwait}

-- An exchange by the holder moves no word and no view: the value goes out by Out and comes home by Home.
pub record IsExchange (core : PoolCore) (id n : ℕ) : Type 0 where
  pub goes_out : refusal_of core (Out id n) ≡ 0
  pub lawful : Lawful (core_after core (Out id n))
  pub comes_home : refusal_of (core_after core (Out id n)) (Home id n) ≡ 0
  pub same : core_after (core_after core (Out id n)) (Home id n) ≡ core
  -- between the two, each other event that is allowed where no value is out is allowed too, and does the same
  pub others_may : (e : Event) → uses_value_of id e ≡ false → refusal_of core e ≡ 0 → refusal_of (core_after core (Out id n)) e ≡ 0
  pub others_do : (e : Event) → uses_value_of id e ≡ false → refusal_of core e ≡ 0 → core_after (core_after core (Out id n)) e ≡ core_after (core_after core e) (Out id n)

module _ {V : Type 0} (fits : State → ℕ → V → Type 0) where
  -- Whatever lawful core the table shows when word i becomes f of what it was, that step of the pass is the event e of its seat: no rule refuses e, the table then shows the core after e, and the pass is told `then`.
  abbrev pub IsEvent : ℕ → ℕ → Carrier V → ℕ → (ℕ → ℕ) → Event → (ℕ → Carrier V → Type 0) → Type 0
  IsEvent slots id me i f e then = (bounds : Bounds) (core : PoolCore) (s : TableState (Option V) PassView)
      → Lawful core → Shows fits bounds core s → length s.homes ≡ slots → get_elem? s.views id ≡ some me.0
      → (refusal_of core e ≡ 0)
      × ((w : PassView) × (a : Act (Option V)) × Valid s.homes me.1 a
      × Shows fits bounds (core_after core e) (stepped s i (f (slice_index s.words i)) id me.1 w a)
      × then (slice_index s.words i) (w, carried_after me.1 a))

  -- a load of word n is Load
  abbrev pub LoadsAreEvents : Type 0
  LoadsAreEvents = (slots id n : ℕ) (me : Carrier V) → n < slots → is_live me.0.seat.stage ≡ true
      → IsEvent slots id me n (λ x. x) (Load id n) (Loads (step slots n 0 0 none) me)

  -- a fetch_or of the held bit of word n, which takes the slot where the bit was 0, is Claim
  abbrev pub ClaimsAreEvents : Type 0
  ClaimsAreEvents = (slots id n : ℕ) (me : Carrier V) → n < slots → me.0.seat ≡ idle_seat Live
      → IsEvent slots id me n (λ x. bit_or x 1) (Claim id n) (Claims fits (step slots n 1 0 none) me)

  -- a store to word n by its holder, with the value in the slot again, is Release
  abbrev pub ReleasesAreEvents : Type 0
  ReleasesAreEvents = (slots id n : ℕ) (v : PassView) (y : V) (to : Target) → n < slots → v.seat ≡ holding_seat n (is_warm to.state) false (is_awaiting to.state)
      → is_well_formed to ≡ true → fits to.state to.tag y
      → IsEvent slots id (v, (n, Some y) ∷ []) n (λ _. packed (free_word to)) (Release id n to)
      (λ _. Releases (step slots n (packed (free_word to)) 0 none) (v, (n, Some y) ∷ []) (packed (free_word to)))

  -- a load of the warm word is WarmLoad
  abbrev pub WarmLoadsAreEvents : Type 0
  WarmLoadsAreEvents = (slots id : ℕ) (me : Carrier V) → is_live me.0.seat.stage ≡ true
      → IsEvent slots id me slots (λ x. x) (WarmLoad id) (LoadsWarm (step slots slots 0 0 none) me)

  -- a fetch_add of 1 to the warm word is WarmUp
  abbrev pub WarmUpsAreEvents : Type 0
  WarmUpsAreEvents = (slots id n : ℕ) (me : Carrier V) → is_live me.0.seat.stage ≡ true → me.0.seat.holds ≡ Some n
      → me.0.seat.permit ≡ false → me.0.seat.refusal ≡ false
      → IsEvent slots id me slots (λ x. (x + 1) % 2 ^ 64) (WarmUp id) (WarmsUp (step slots slots 1 0 none) me)

  -- a fetch_sub of 1 from the warm word is WarmDown
  abbrev pub WarmDownsAreEvents : Type 0
  WarmDownsAreEvents = (slots id n : ℕ) (me : Carrier V) → is_live me.0.seat.stage ≡ true → me.0.seat.holds ≡ Some n
      → (me.0.seat.permit || me.0.seat.refusal) ≡ true
      → IsEvent slots id me slots (λ x. (x + (2 ^ 64 - 1)) % 2 ^ 64) (WarmDown id) (WarmsDown (step slots slots 1 0 none) me)

  -- a fetch_add of 1 to the clock word is Stamp
  abbrev pub StampsAreEvents : Type 0
  StampsAreEvents = (slots id n : ℕ) (me : Carrier V) → is_live me.0.seat.stage ≡ true → me.0.seat.holds ≡ Some n
      → IsEvent slots id me (slots + 2) (λ x. (x + 1) % 2 ^ 64) (Stamp id) (Stamps (step slots (slots + 2) 1 0 none) me)

  -- a fetch_add of 1 to the await word is AwaitUp
  abbrev pub AwaitUpsAreEvents : Type 0
  AwaitUpsAreEvents = (slots id n : ℕ) (me : Carrier V) → is_live me.0.seat.stage ≡ true → me.0.seat.holds ≡ Some n → me.0.seat.mark ≡ false
      → IsEvent slots id me (slots + 1) (λ x. (x + 1) % 2 ^ 64) (AwaitUp id) (AwaitsUp (step slots (slots + 1) 1 0 none) me)

  -- a fetch_sub of 1 from the await word is AwaitDown
  abbrev pub AwaitDownsAreEvents : Type 0
  AwaitDownsAreEvents = (slots id n : ℕ) (me : Carrier V) → is_live me.0.seat.stage ≡ true → me.0.seat.holds ≡ Some n → me.0.seat.mark ≡ true
      → IsEvent slots id me (slots + 1) (λ x. (x + (2 ^ 64 - 1)) % 2 ^ 64) (AwaitDown id) (AwaitsDown (step slots (slots + 1) 1 0 none) me)

  -- a load of the await word is AwaitLoad
  abbrev pub AwaitLoadsAreEvents : Type 0
  AwaitLoadsAreEvents = (slots id : ℕ) (me : Carrier V) → is_live me.0.seat.stage ≡ true
      → IsEvent slots id me (slots + 1) (λ x. x) (AwaitLoad id) (LoadsAwait (step slots (slots + 1) 0 0 none) me)

  -- a new seat, split off from an idle one, is Split to the next number
  abbrev pub SplitsAreEvents : Type 0
  SplitsAreEvents = (id : ℕ) (v : PassView) → v.seat ≡ idle_seat Live → 1 ≤ v.unsplit → 2 ≤ v.share
      → (bounds : Bounds) (core : PoolCore) (s : TableState (Option V) PassView) → Lawful core → Shows fits bounds core s → get_elem? s.views id ≡ some v
      → (refusal_of core (Split id (length s.views)) ≡ 0)
      × Shows fits bounds (core_after core (Split id (length s.views))) record { words = s.words; homes = s.homes; views = slice_set s.views id (view_left v) ++ view_given v ∷ [] }

  -- an idle seat that takes in another idle one is Join
  abbrev pub JoinsAreEvents : Type 0
  JoinsAreEvents = (id other : ℕ) (v w : PassView) → v.seat ≡ idle_seat Live → w.seat ≡ idle_seat Live
      → (bounds : Bounds) (core : PoolCore) (s : TableState (Option V) PassView) → Lawful core → Shows fits bounds core s → get_elem? s.views id ≡ some v
      → ¬ (other ≡ id) → get_elem? (slice_set s.views id (view_joined v w)) other ≡ some w
      → (refusal_of core (Join id other) ≡ 0)
      × Shows fits bounds (core_after core (Join id other)) record { words = s.words; homes = s.homes; views = slice_set (slice_set s.views id (view_joined v w)) other spent_view }

  -- taking the table apart by an idle seat is Close: the words stay, and no seat is live any more
  abbrev pub ClosesAreEvents : Type 0
  ClosesAreEvents = (id : ℕ) (v : PassView) → v.seat ≡ idle_seat Live
      → (bounds : Bounds) (core : PoolCore) (s : TableState (Option V) PassView) → Lawful core → Shows fits bounds core s → get_elem? s.views id ≡ some v
      → (refusal_of core (Close id) ≡ 0) × ((core_after core (Close id)).words ≡ core.words) × ((j : ℕ) → is_live (seat_at (core_after core (Close id)) j).stage ≡ false)

  -- an exchange by the holder is Out or Home
  abbrev pub ExchangesAreEvents : Type 0
  ExchangesAreEvents = (id n : ℕ) (v : PassView) → is_live v.seat.stage ≡ true → v.seat.holds ≡ Some n
      → (bounds : Bounds) (core : PoolCore) (s : TableState (Option V) PassView) → Lawful core → Shows fits bounds core s → get_elem? s.views id ≡ some v → IsExchange core id n
