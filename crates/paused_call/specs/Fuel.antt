-- The fuel that a call leaves.
use Rattle.std.specs.Prelude.{◌≡◌, ℕ, ◌-◌, Option, Some, None}
use Rattle.wasm_spec.specs.Result.{CallResult}
use Rattle.paused_call.specs.declared.call.PausedCall.{PausedCall}
use Rattle.paused_call.specs.declared.call.SliceEnd.{SliceEnd}
use Rattle.paused_call.specs.declared.call.SliceEnd.TheVariants.{Again, Done}

-- what is left of its fuel where a call comes to this, as the end of a run of the machine has it
abbrev pub left_in : Option CallResult → Option ℕ
left_in None = None
left_in (Some end) = Some end.fuel

-- what the turns so far have left
abbrev pub fuel_left : PausedCall → ℕ
fuel_left call = call.fuel - call.turns

-- where the call is over, so much of all its fuel is left
abbrev pub LeavesFuel : (ℕ → Option CallResult) → (fuel : ℕ) → SliceEnd → (left : ℕ) → Type 0
LeavesFuel result fuel Again left = Unit {0}
LeavesFuel result fuel (Done outcome) left = left_in (result fuel) ≡ Some left
