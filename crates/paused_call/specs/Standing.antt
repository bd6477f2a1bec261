-- Where a call stands that is made in slices, and what a slice makes of it.
use Rattle.std.specs.Prelude.{◌≡◌, ℕ, ◌+◌, ◌-◌, ◌*◌, ◌<◌, ◌≤◌, Bool, true, false, List, Option, Some, is_some}
use Rattle.wasm_types.specs.declared.module.Module.{Module}
use Rattle.wasm_values.specs.declared.outcome.Outcome.{Outcome}
use Rattle.wasm_values.specs.declared.outcome.Val.{Val}
use Rattle.wasm_types.specs.Tree.{module_tree}
use Rattle.wasm_spec.specs.Execution.{Ended, Terms}
use Rattle.wasm_spec.specs.MoreFuel.{is_fuel, is_fuel_end}
use Rattle.wasm_spec.specs.Result.{CallResult, function_result, if_done, result_from, result_of, run_function}
use Rattle.wasm_spec.specs.Store.{Store}
use Rattle.linear_memory.specs.declared.memory.Memory.{Memory}
use Rattle.memory_blocks.specs.Blocks.{KeepsUnmarked}
use Rattle.wasm_machine.specs.Calls.{IsCall}
use Rattle.wasm_machine.specs.Lent.{MarksWithin}
use Rattle.wasm_machine.specs.Resuming.{HasEnded, IsOutOfFuel, Resumes}
use Rattle.wasm_machine.specs.Room.{StacksView}
use Rattle.wasm_machine.specs.Simulation.{after}
use Rattle.wasm_machine.specs.TypedConfiguration.{IsTypedStore}
use Rattle.paused_call.specs.declared.call.PausedCall.{PausedCall}
use Rattle.paused_call.specs.declared.call.SliceEnd.{SliceEnd}
use Rattle.paused_call.specs.declared.call.SliceEnd.TheVariants.{Again, Done}

-- ---- where it stands

-- what a call comes to on each fuel, from the store that it began with
abbrev pub whole : Module → Terms → PausedCall → List Val → Store → ℕ → Option CallResult
whole m limits call args begun fuel = result_from (module_tree m) limits call.function args begun fuel

-- what follows the run of a function: where it is the start function's, the export's
abbrev pub followed : Bool → (Store → ℕ → Option CallResult) → Option CallResult → Option CallResult
followed true export o = if_done o export
followed false export o = o

-- A call of the module that began from this store and with these arguments.
module _ (m : Module) (limits : Terms) (begun : Store) (args : List Val) (call : PausedCall) where
  -- the function of it that is at work: what it was given, the turns of the call that were made before it, and the store that they left
  pub record Current : Type 0 where
    pub runs : ℕ
    pub given : List Val
    pub since : ℕ
    pub from : Store
    pub before : since ≤ call.turns
    pub comes : (more : ℕ) → whole m limits call args begun (since + more)
        ≡ followed call.starts (function_result (module_tree m) limits call.function args) (function_result (module_tree m) limits runs given from more)

  -- its run, from the call's next turn on
  abbrev pub ahead : Current → ℕ → Ended
  ahead f more = run_function (module_tree m) limits f.runs f.given f.from (call.turns - f.since + more)

  -- it has not begun: nothing stands in the stacks, and an import needs nothing there
  pub record IsAhead (store : Store) : Type 0 where
    pub turns_are : call.turns ≡ 0
    pub store_is : store ≡ begun
    pub starts_is : call.starts ≡ is_some m.start

  -- it stands in these stacks
  pub record IsAtWork (stacks : StacksView) (store : Store) : Type 0 where
    pub current : Current
    pub resumes : Resumes m limits stacks store (ahead current)

  abbrev pub IsAt : (entered : Bool) → StacksView → Store → Type 0
  IsAt true stacks store = IsAtWork stacks store
  IsAt false stacks store = IsAhead store

-- after so many turns it ended for want of fuel, and left this store
pub record HasLeft (result : ℕ → Option CallResult) (turns : ℕ) (store : Store) : Type 0 where
  pub end : CallResult
  pub gives : result turns ≡ Some end
  pub unfinished : is_fuel end.outcome ≡ true
  pub leaves : end.store ≡ store

-- The store of a call after so many turns. Before the first it is as it began, also where it ends without one.
pub record ShowsStore (result : ℕ → Option CallResult) (begun : Store) (turns : ℕ) (store : Store) : Type 0 where
  pub first : turns ≡ 0 → store ≡ begun
  pub later : 0 < turns → HasLeft result turns store

-- A call of the module began from this store and with these arguments. It stands before its next turn or at its end, in these stacks
-- or before it begins, and the store is now this.
pub record Stands (m : Module) (limits : Terms) (begun : Store) (args : List Val) (call : PausedCall) (stacks : StacksView) (store : Store) : Type 0 where
  pub is_call : IsCall m call.function args
  pub deep : 0 < limits.depth
  pub frames : limits.depth ≤ stacks.room.depth
  pub within : call.turns ≤ call.fuel
  pub typed : IsTypedStore m store
  pub at : IsAt m limits begun args call call.entered stacks store
  pub shows : ShowsStore (whole m limits call args begun) begun call.turns store

-- some call stands in them
abbrev pub CanResume : Module → Terms → List Val → PausedCall → StacksView → Store → Type 0
CanResume m limits args call stacks store = (begun : Store) × Stands m limits begun args call stacks store

-- ---- one run

-- What the function at work does on so much fuel: how it ends, what its memory becomes, and where it stands if the fuel is used up.
pub record Ran (m : Module) (limits : Terms) (begun : Store) (args : List Val) (call : PausedCall) (fuel : ℕ) (old new : Memory) (stacks : StacksView) (end : CallResult) : Type 0 where
  pub current : Current m limits begun args call
  pub gives : result_of (ahead m limits begun args call current fuel) ≡ Some end
  pub ended : HasEnded end.outcome → (more : ℕ) → result_of (ahead m limits begun args call current (fuel - end.fuel + more)) ≡ Some (record end { fuel = more })
  pub stands : IsOutOfFuel end.outcome → Resumes m limits stacks end.store (after fuel (ahead m limits begun args call current))
  pub marked : (turns : ℕ) (x : CallResult) → turns ≤ fuel → result_of (ahead m limits begun args call current turns) ≡ Some x
      → KeepsUnmarked old.bytes.items x.store.memory old.marks.items new.marks.items

-- ---- a slice

-- after so many turns it has ended for want of fuel, and there is more
pub record Waits (result : ℕ → Option CallResult) (fuel turns : ℕ) : Type 0 where
  pub unfinished : is_fuel_end (result turns) ≡ true
  pub more : turns < fuel

-- how far a slice goes: so many turns more, or to the end of the fuel, whichever is less
abbrev pub upto : PausedCall → ℕ → ℕ
upto call slice = call.turns + slice - (call.turns + slice - call.fuel)

-- Turns from this one on to that one, over a memory of the module: what the call comes to there, and what they marked. Without a
-- turn a call that goes on marks nothing.
pub record Went (m : Module) (result : ℕ → Option CallResult) (from to : ℕ) (old new : Memory) (store : Store) : Type 0 where
  pub at : CallResult
  pub gives : result to ≡ Some at
  pub shows : at.store ≡ store
  pub marked : (turns : ℕ) (x : CallResult) → from ≤ turns → turns ≤ to → result turns ≡ Some x
      → KeepsUnmarked old.bytes.items x.store.memory old.marks.items new.marks.items
  pub still : is_fuel at.outcome ≡ true → to ≡ from → new.marks.items ≡ old.marks.items
  pub marks : MarksWithin m old new (2 * (to - from - at.fuel))

-- the answer of a call that is over: how it ends on all its fuel, and the store that it leaves
pub record IsOutcome (result : ℕ → Option CallResult) (fuel : ℕ) (outcome : Outcome) (store : Store) : Type 0 where
  pub end : CallResult
  pub gives : result fuel ≡ Some end
  pub ends : outcome ≡ end.outcome
  pub leaves : end.store ≡ store

-- Again exactly where the call waits after so many turns more, and else its outcome, with this store.
abbrev pub HasTurned : (ℕ → Option CallResult) → PausedCall → (slice : ℕ) → (store : Store) → SliceEnd → Type 0
HasTurned result call slice store Again = Waits result call.fuel (call.turns + slice)
HasTurned result call slice store (Done outcome) = ¬ (Waits result call.fuel (call.turns + slice)) × IsOutcome result call.fuel outcome store
