use Rattle.std.proofs.Common.{◌≡◌, ℕ, None}
use Rattle.wasm_spec.specs.Execution.{Ended, Terms}
use Rattle.wasm_spec.specs.Store.{Store}
use Rattle.machine_steps.specs.StackLayout.{KeepsRoom}
use Rattle.wasm_machine.specs.Simulation.{Simulates, depth_of, op_at}
use Rattle.wasm_machine.proofs.interpreter.end_sequences.Given as goal

abbrev pub invariant-loop-ops : goal.invariant-loop-ops
invariant-loop-ops l = record {
  over : op_at l.m l.machine ≡ None;
  simulates : (limits : Terms) (frame : ℕ) (store : Store) (r : ℕ → Ended) → Simulates l.m limits frame l.fn.machine store r → Simulates l.m limits frame l.machine store r;
  room : KeepsRoom l.fn.machine l.machine;
}

abbrev pub decreases-loop-ops : goal.decreases-loop-ops
decreases-loop-ops l = depth_of l.machine
