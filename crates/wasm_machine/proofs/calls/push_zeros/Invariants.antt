use Rattle.std.proofs.Common.{◌≡◌, ◌≤◌, ◌++◌, map, take}
use Rattle.std.specs.List.{flat_map}
use Rattle.wasm_types.specs.Tree.{locals_of}
use Rattle.wasm_spec.specs.Execution.{zero_of}
use Rattle.wasm_machine.proofs.calls.push_zeros.Given as goal

abbrev pub invariant-loop-run : goal.invariant-loop-run
invariant-loop-run l = record {
  items : l.values.items ≡ l.fn.values.items ++ map zero_of (flat_map locals_of (take l.run-index l.fn.runs));
  room : l.fn.values.room ≤ l.values.room;
}
