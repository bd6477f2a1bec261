use Rattle.std.proofs.Common.{◌≡◌, ◌≤◌, ◌-◌, ◌*◌, ℕ, length}
use Rattle.wasm_spec.specs.Execution.{Ended, terms_of}
use Rattle.wasm_spec.specs.Instances.{room_for}
use Rattle.linear_memory.specs.Bytes.{IsMemory}
use Rattle.machine_steps.specs.Lent.{store_of}
use Rattle.machine_steps.specs.StackLayout.{KeepsRoom}
use Rattle.wasm_machine.specs.Lent.{MarksWithin}
use Rattle.wasm_machine.specs.TypedConfiguration.{IsRunnable}
use Rattle.wasm_machine.specs.Simulation.{AreMarkedBelow, Simulates, after, placed, sequence_at}
use Rattle.wasm_machine.specs.Stretches.{IsNext, fuel_of, place_of}
use Rattle.wasm_machine.proofs.interpreter.advance.Given as goal

abbrev pub invariant-turns : goal.invariant-turns
invariant-turns l = record {
  within : fuel_of l.ahead ≤ l.fuel;
  next : IsNext (sequence_at l.inputs.m.now l.machine) l.ahead;
  simulates : (frame : ℕ) (r : ℕ → Ended) → IsRunnable l.inputs.m.now frame → Simulates l.inputs.m.now (terms_of l.inputs.limits l.inputs.request.now) frame l.fn.machine (store_of l.fn.memory l.inputs.table.now l.fn.globals l.fn.answer) r
      → Simulates l.inputs.m.now (terms_of l.inputs.limits l.inputs.request.now) frame (placed l.machine (place_of l.ahead)) (store_of l.memory l.inputs.table.now l.globals l.answer) (after (l.fuel - fuel_of l.ahead) r);
  marked : (frame : ℕ) (r : ℕ → Ended) → IsRunnable l.inputs.m.now frame → Simulates l.inputs.m.now (terms_of l.inputs.limits l.inputs.request.now) frame l.fn.machine (store_of l.fn.memory l.inputs.table.now l.fn.globals l.fn.answer) r
      → AreMarkedBelow (l.fuel - fuel_of l.ahead) r l.fn.memory l.memory;
  unspent : fuel_of l.ahead ≡ l.fuel → l.memory.marks.items ≡ l.fn.memory.marks.items;
  room : KeepsRoom l.fn.machine l.machine;
  memory : IsMemory (room_for l.inputs.m.now.memories l.inputs.limits.pages) l.memory;
  globals : length l.globals ≡ length l.fn.globals;
  marks : MarksWithin l.inputs.m.now l.fn.memory l.memory (2 * (l.fuel - fuel_of l.ahead));
}

abbrev pub decreases-turns : goal.decreases-turns
decreases-turns l = fuel_of l.ahead
