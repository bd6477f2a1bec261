-- What an event leaves as it was.
use Rattle.std.specs.Prelude.{◌≡◌, ℕ, ◌+◌, ◌%◌, ◌^◌, ◌==◌, Bool, true, false, Some, length}
use Rattle.pool_core.specs.declared.events.Event.{Event}
use Rattle.pool_core.specs.declared.events.Event.TheVariants.{Load, Claim, Out, Home, Release, Split, Join, Close, WarmLoad, WarmUp, WarmDown, Stamp, AwaitUp, AwaitDown, AwaitLoad}
use Rattle.pool_core.specs.PoolCore.{PoolCore, word_at, seat_at, is_live}
use Rattle.pool_core.specs.EventEffects.{core_after}
use Rattle.pool_core.specs.RefusalRules.{seat_of, refusal_of}
use Rattle.pool_core.specs.Lawful.{Lawful}

-- whether an event may change the seat i
abbrev pub may_change_seat : Event → ℕ → Bool
may_change_seat (Split s t) i = i == t
may_change_seat (Join s t) i = i == t
may_change_seat (Close s) i = true
may_change_seat (Load s n) i = false
may_change_seat (WarmLoad s) i = false
may_change_seat (Stamp s) i = false
may_change_seat (AwaitLoad s) i = false
may_change_seat e i = i == seat_of e

-- whether it may change the word i
abbrev pub may_change_word : Event → ℕ → Bool
may_change_word (Claim s n) i = i == n
may_change_word (Release s n to) i = i == n
may_change_word e i = false

-- whether it may change the count of warm slots
abbrev pub may_change_warm : Event → Bool
may_change_warm (WarmUp s) = true
may_change_warm (WarmDown s) = true
may_change_warm e = false

-- whether it may change the count of awaiting slots
abbrev pub may_change_awaiting : Event → Bool
may_change_awaiting (AwaitUp s) = true
may_change_awaiting (AwaitDown s) = true
may_change_awaiting e = false

-- whether it may change the clock
abbrev pub may_change_clock : Event → Bool
may_change_clock (Stamp s) = true
may_change_clock e = false

-- an event changes its own seat alone, but for a split, a join and a close, the word alone that it claims or releases, and a count or the clock where that is all it is for
pub record ChangesOnly (e : Event) (old new : PoolCore) : Type 0 where
  pub seats : (i : ℕ) → may_change_seat e i ≡ false → seat_at new i ≡ seat_at old i
  pub words : (i : ℕ) → may_change_word e i ≡ false → word_at new i ≡ word_at old i
  pub seat_count : length new.seats ≡ length old.seats
  pub word_count : length new.words ≡ length old.words
  pub limit : new.limit ≡ old.limit
  pub warm : may_change_warm e ≡ false → new.warm ≡ old.warm
  pub awaiting : may_change_awaiting e ≡ false → new.awaiting ≡ old.awaiting
  pub clock : may_change_clock e ≡ false → new.clock ≡ old.clock

-- a count goes up or down by one, and the clock goes on by one, round 2^64
abbrev pub MovesByOne : Event → PoolCore → PoolCore → Type 0
MovesByOne (WarmUp s) old new = new.warm ≡ old.warm + 1
MovesByOne (WarmDown s) old new = new.warm + 1 ≡ old.warm
MovesByOne (AwaitUp s) old new = new.awaiting ≡ old.awaiting + 1
MovesByOne (AwaitDown s) old new = new.awaiting + 1 ≡ old.awaiting
MovesByOne (Stamp s) old new = new.clock ≡ (old.clock + 1) % 2 ^ 64
MovesByOne e old new = Unit {0}

-- a close leaves no seat live; any other event leaves its own seat live, a split the new seat too, and a join not the other
abbrev pub LeavesLive : Event → PoolCore → Type 0
LeavesLive (Close s) new = (i : ℕ) → is_live (seat_at new i).stage ≡ false
LeavesLive (Split s t) new = (is_live (seat_at new s).stage ≡ true) × (is_live (seat_at new t).stage ≡ true)
LeavesLive (Join s t) new = (is_live (seat_at new s).stage ≡ true) × (is_live (seat_at new t).stage ≡ false)
LeavesLive e new = is_live (seat_at new (seat_of e)).stage ≡ true

-- an event that moves the value of this seat, or needs it in its slot
abbrev pub uses_value_of : ℕ → Event → Bool
uses_value_of s (Out t n) = t == s
uses_value_of s (Home t n) = t == s
uses_value_of s (Release t n to) = t == s
uses_value_of s e = false

-- while a seat's value is out, every other event may happen as before, and does the same
abbrev pub OutChangesNothingElse : Type 0
OutChangesNothingElse = (c : PoolCore) (s n : ℕ) (e : Event) → Lawful c → (seat_at c s).holds ≡ Some n → uses_value_of s e ≡ false → refusal_of c e ≡ 0
    → (refusal_of (core_after c (Out s n)) e ≡ 0) × (core_after (core_after c (Out s n)) e ≡ core_after (core_after c e) (Out s n))
