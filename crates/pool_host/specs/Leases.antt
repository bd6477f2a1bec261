-- A slot that a module may not need, between its take and its give.
use Rattle.std.specs.Prelude.{◌≡◌, ℕ, ◌<◌, false, Option, Some, None, List, []}
use Rattle.slot_words.specs.declared.views.Operation.{Operation}
use Rattle.slot_words.specs.Passes.{Holds, IsIdle, Pass}
use Rattle.instance_calls.specs.Parts.{Slot}

-- the pass has this slot of so many; without a slot it holds nothing
abbrev pub HoldsSlot : {V : Type 0} → ℕ → Pass V → Option Slot → Type 0
HoldsSlot slots pass None = IsIdle pass
HoldsSlot slots pass (Some s) = Holds pass s.number false false false × (s.number < slots)

-- what the take of the slot adds, and what its give adds; without a slot nothing
abbrev pub Took : (ℕ → ℕ → List Operation → Type 0) → Option Slot → List Operation → Type 0
Took IsTake None done = done ≡ []
Took IsTake (Some s) done = IsTake s.number s.word done

abbrev pub Gave : (ℕ → List Operation → Type 0) → Option Slot → List Operation → Type 0
Gave IsGive None done = done ≡ []
Gave IsGive (Some s) done = IsGive s.number done
