-- A pass that has the slot of a kind which a module may not need, as a type can keep it.
use Rattle.std.specs.Prelude.{◌≡◌, ℕ, ◌<◌, Bool, true, false, List, [], ◌∷◌, map, Option, Some, None}
use Rattle.pool_core.specs.declared.seats.Seat.{Seat}
use Rattle.pool_core.specs.declared.seats.Stage.TheVariants.{Live}
use Rattle.pool_core.specs.PoolCore.{holding_seat, idle_seat}
use Rattle.slot_words.specs.Passes.{Pass}
use Rattle.instance_calls.specs.Parts.{Slot}

-- a seat that holds it
abbrev pub seat_with : Option Slot → Seat
seat_with None = idle_seat Live
seat_with (Some s) = holding_seat s.number false false false

-- whose value is out
abbrev pub numbers_out : Option Slot → List ℕ
numbers_out None = []
numbers_out (Some s) = s.number ∷ []

-- the places of a pass have no values
abbrev pub are_empty : {V : Type 0} → List (ℕ × Option V) → Bool
are_empty [] = true
are_empty ((n, None) ∷ places) = are_empty places
are_empty ((n, Some v) ∷ places) = false

-- it holds the slot, and nothing else
abbrev pub HasOut : {V : Type 0} → Pass V → Option Slot → Type 0
HasOut p o = (p.me.0.seat ≡ seat_with o) × (map (λ e. e.0) p.me.1 ≡ numbers_out o) × (are_empty p.me.1 ≡ true)

-- the slot is one of so many
abbrev pub IsWithin : ℕ → Option Slot → Type 0
IsWithin slots None = Unit {0}
IsWithin slots (Some s) = s.number < slots
