-- Where stacks stand in a run, and what it comes to from there.
use Rattle.std.specs.Prelude.{ℕ}
use Rattle.wasm_types.specs.declared.module.Module.{Module}
use Rattle.wasm_values.specs.declared.outcome.Outcome.{Outcome}
use Rattle.wasm_values.specs.declared.outcome.Outcome.TheVariants as outcome
use Rattle.wasm_spec.specs.Execution.{Terms, Ended}
use Rattle.wasm_spec.specs.Store.{Store}
use Rattle.wasm_machine.specs.Room.{StacksView}
use Rattle.wasm_machine.specs.Simulation.{Simulates}

-- A run stands in these stacks: from this store on it comes, with any fuel, to what r gives for that fuel.
abbrev pub Resumes : Module → Terms → StacksView → Store → (ℕ → Ended) → Type 0
Resumes m limits stacks store r = Simulates m limits stacks.room.frame stacks.machine store r

-- some run stands in them
pub record CanResume (m : Module) (limits : Terms) (stacks : StacksView) (store : Store) : Type 0 where
  pub to : ℕ → Ended
  pub resumes : Resumes m limits stacks store to

abbrev pub IsOutOfFuel : Outcome → Type 0
IsOutOfFuel outcome.Fuel = Unit {0}
IsOutOfFuel _ = ⊥

-- it ended, well or by a trap
abbrev pub HasEnded : Outcome → Type 0
HasEnded outcome.Fuel = ⊥
HasEnded _ = Unit {0}
