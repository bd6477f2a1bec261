-- The instructions that a run has before it.
use Rattle.std.specs.Prelude.{◌≡◌, ℕ, ◌+◌, ◌-◌, ◌<◌, ◌≤◌, List, Result, Ok, Err, length}
use Rattle.std.specs.List.{between}
use Rattle.wasm_types.specs.declared.instr.Op.{Op}
use Rattle.wasm_types.specs.declared.module.Module.{Module}
use Rattle.wasm_spec.specs.Execution.{Ended, Terms}
use Rattle.wasm_spec.specs.Store.{Store}
use Rattle.machine_steps.specs.declared.machine.Machine.{Machine}
use Rattle.wasm_machine.specs.declared.interpreter.Halt.{Halt}
use Rattle.wasm_machine.specs.declared.stretch.Stretch.{Stretch}
use Rattle.wasm_machine.specs.Simulation.{HaltsAs, Simulates, after, left_of, placed}

-- the place of the first one in their sequence
abbrev pub place_of : Stretch → ℕ
place_of s = s.end - length s.ops.now

-- the fuel before it: what each one costs, and what is left behind them
abbrev pub fuel_of : Stretch → ℕ
fuel_of s = length s.ops.now + s.reserve

-- they are those of this sequence from that place to their end
pub record LiesIn (sequence : List Op) (s : Stretch) : Type 0 where
  pub within : length s.ops.now ≤ s.end
  pub are : s.ops.now ≡ between (place_of s) s.end sequence

-- and there is one
pub record IsNext (sequence : List Op) (s : Stretch) : Type 0 where
  pub lies : LiesIn sequence s
  pub some : 0 < length s.ops.now

-- the fuel that is left with these instructions, or where a run halts
abbrev pub fuel_after : Result Stretch Halt → ℕ
fuel_after (Ok next) = fuel_of next
fuel_after (Err halt) = left_of halt

-- With so much fuel the run goes on with these instructions, on what they have of it, or it halts.
abbrev pub GoesOnAs : Result Stretch Halt → Module → Terms → ℕ → Machine → Store → (fuel : ℕ) → (ℕ → Ended) → Type 0
GoesOnAs (Ok next) m limits frame machine store fuel r = Simulates m limits frame (placed machine (place_of next)) store (after (fuel - fuel_of next) r)
GoesOnAs (Err halt) m limits frame machine store fuel r = HaltsAs halt m limits frame machine store fuel r
