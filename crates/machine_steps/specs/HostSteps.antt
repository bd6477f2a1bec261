-- What a function of the host does to a machine.
use Rattle.std.specs.Prelude.{◌≢◌, ℕ, ◌<◌, List, Option, length}
use Rattle.wasm_values.specs.declared.outcome.TrapKind.{TrapKind}
use Rattle.wasm_types.specs.declared.host.HostFunction.{HostFunction}
use Rattle.wasm_types.specs.declared.host.HostFunction.TheVariants as host
use Rattle.wasm_spec.specs.Store.{Store}
use Rattle.wasm_spec.specs.Execution.{Stuck, host_call}
use Rattle.machine_steps.specs.declared.machine.Machine.{Machine}
use Rattle.machine_steps.specs.Configuration.{Configuration, state}
use Rattle.machine_steps.specs.StackLayout.{Represents}
use Rattle.machine_steps.specs.PlainSteps.{EndsAs}

-- some run can call the function here
pub record CanCallHost (request : List ℕ) (h : HostFunction) (machine : Machine) : Type 0 where
  pub configuration : Configuration
  pub store : Store
  pub represents : Represents configuration machine
  pub fine : host_call request h (state configuration store) ≢ Stuck

-- what the function does, from one machine and store to others
abbrev pub CallsHost : List ℕ → HostFunction → (old : Machine) → (before : Store) → Option TrapKind → (new : Machine) → (after : Store) → Type 0
CallsHost request h old before o new after =
    (k : Configuration) → Represents k old → host_call request h (state k before) ≢ Stuck → EndsAs (host_call request h (state k before)) k o new after

-- the one that takes nothing needs room for what it gives
abbrev pub IsHostReady : HostFunction → Machine → Type 0
IsHostReady host.Len machine = length machine.values.items < machine.values.room
IsHostReady _ machine = Unit {0}
