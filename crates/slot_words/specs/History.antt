-- One history: all steps of all passes as one list of events from the opening.
use Rattle.std.specs.Prelude.{◌≡◌, ℕ, ◌≤◌, ◌==◌, ltb, Bool, false, if◌then◌else◌, List, [], ◌∷◌, ◌++◌, length, flat_map}
use Rattle.std.specs.List.{All, count_by}
use mathlib.Core.Option.{some}
use lib.ListN.{get_elem?}
use Rattle.pool_core.specs.declared.events.Event.{Event}
use Rattle.pool_core.specs.declared.events.Event.TheVariants.{Load, Claim, Release, WarmLoad, WarmUp, WarmDown, Stamp, AwaitUp, AwaitDown, AwaitLoad}
use Rattle.pool_core.specs.StateWords.{bit, packed, free_word}
use Rattle.pool_core.specs.PoolCore.{PoolCore, word_at, opening_core, is_away}
use Rattle.pool_core.specs.EventEffects.{core_after}
use Rattle.pool_core.specs.RefusalRules.{seat_of}
use Rattle.pool_core.specs.Runs.{core_after_all, AllAllowed}
use Rattle.slot_words.specs.declared.views.PassView.{PassView}
use Rattle.slot_words.specs.declared.views.SeatTrail.{SeatTrail}
use Rattle.slot_words.specs.declared.views.Bounds.{Bounds}
use Rattle.slot_words.specs.declared.views.Operation.{Operation}
use Rattle.slot_words.specs.declared.views.Operation.TheVariants as operation
use Rattle.slot_words.specs.Views.{in_one, trails_of}

-- what a pass notes of its event, in a pool as this: the number that it reads, and of a release that which it stores
abbrev pub noted : PoolCore → Event → List Operation
noted c (Load s n) = operation.Load n (packed (word_at c n)) ∷ []
noted c (Claim s n) = operation.Claim n (packed (word_at c n)) ∷ []
noted c (Release s n to) = operation.Release n (packed (free_word to)) ∷ []
noted c (WarmLoad s) = operation.WarmLoad c.warm ∷ []
noted c (WarmUp s) = operation.WarmUp c.warm ∷ []
noted c (WarmDown s) = operation.WarmDown c.warm ∷ []
noted c (Stamp s) = operation.Stamp c.clock ∷ []
noted c (AwaitUp s) = operation.AwaitUp c.awaiting ∷ []
noted c (AwaitDown s) = operation.AwaitDown c.awaiting ∷ []
noted c (AwaitLoad s) = operation.AwaitLoad c.awaiting ∷ []
noted c e = []

-- what the seat s notes of an event
abbrev pub noted_by : ℕ → PoolCore → Event → List Operation
noted_by s c e = if seat_of e == s then noted c e else []

-- and of a list of events, from a pool on
abbrev pub trail_of : ℕ → PoolCore → List Event → List Operation
trail_of s c [] = []
trail_of s c (e ∷ es) = noted_by s c e ++ trail_of s (core_after c e) es

-- what all seats noted of them
abbrev pub all_noted : PoolCore → List Event → List Operation
all_noted c [] = []
all_noted c (e ∷ es) = noted c e ++ all_noted (core_after c e) es

-- the trail is what its seat noted of these events
abbrev pub IsTrail : PoolCore → List Event → SeatTrail → Type 0
IsTrail opening events t = t.trail ≡ trail_of t.seat opening events

-- whether the trail is that of the seat s
abbrev pub is_of : ℕ → SeatTrail → Bool
is_of s t = t.seat == s

-- the trails that a view has; a seat that is not made yet, or was joined away, has none
abbrev pub trails_in : PassView → List SeatTrail
trails_in v = if is_away v.seat.stage then [] else trails_of v

-- the operations of all passes
abbrev pub all_operations : List PassView → List Operation
all_operations views = in_one (flat_map trails_in views)

-- a pool of these words, as it opened
abbrev pub opening_of : Bounds → PoolCore → PoolCore
opening_of bounds core = opening_core (length core.words) bounds.limit bounds.passes

-- One list of events from the opening, none of which is refused where it comes, leads to this core, and the views' trails are what their seats noted of it.
pub record IsHistory (opening core : PoolCore) (views : List PassView) : Type 0 where
  pub events : List Event
  pub allowed : AllAllowed opening events
  pub leads : core ≡ core_after_all opening events
  -- a view knows the number of its seat, and each trail that it has, its own and those that were joined into it, is what that trail's seat noted
  pub number : (j : ℕ) (v : PassView) → get_elem? views j ≡ some v → is_away v.seat.stage ≡ false → v.number ≡ j
  pub each : (j : ℕ) (v : PassView) → get_elem? views j ≡ some v → is_away v.seat.stage ≡ false → All (IsTrail opening events) (trails_of v)
  -- each seat that was made has one trail in the views, and no other seat has one or noted anything
  pub one_each : (s : ℕ) → count_by (is_of s) (flat_map trails_in views) ≡ bit (ltb s (length views))
  pub unmade : (s : ℕ) → length views ≤ s → trail_of s opening events ≡ []
