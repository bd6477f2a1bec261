-- What a call does at the pool of one kind.
use Rattle.std.specs.Prelude.{◌≡◌, ℕ, ◌<◌, Bool, true, List, []}
use Rattle.slot_words.specs.declared.views.Operation.{Operation}
use Rattle.slot_words.specs.Parts.{Grew, Then}
use Rattle.slot_words.specs.Passes.{Pass, share_of, trail}

-- It asks for nothing; or for a slot, which it takes and gives back; or for a slot, and finds each held.
pub data Visit : Type 0 where
  None : Visit
  Served : Visit
  TurnedAway : Visit

-- What it adds to the trail there: where it is served, a take that won a slot, where this was read, and the give of that slot.
abbrev pub Adds : (IsTake : ℕ → ℕ → List Operation → Type 0) → (IsGive : ℕ → List Operation → Type 0) → (IsFullTake : List Operation → Type 0) → Visit → List Operation → Type 0
Adds IsTake IsGive IsFullTake None done = done ≡ []
Adds IsTake IsGive IsFullTake Served done = (number : ℕ) × (read : ℕ) × Then (IsTake number read) (IsGive number) done
Adds IsTake IsGive IsFullTake TurnedAway done = IsFullTake done

-- Why it was turned away: its module needs a slot of the kind, its take won nothing, and the pass does not stand for all of the pool's.
pub record IsTurnedAway {V : Type 0} (needed : Bool) (IsFullTake : List Operation → Type 0) (passes : ℕ) (before after : Pass V) : Type 0 where
  pub needed_is : needed ≡ true
  pub full : Grew IsFullTake (trail before) (trail after)
  pub others : share_of before < passes
