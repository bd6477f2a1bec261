use Rattle.std.proofs.Common.{◌≡◌, ◌≤◌, ◌++◌, replicate}
use Rattle.wasm_machine.proofs.calls.fill.Given as goal

abbrev pub invariant-loop : goal.invariant-loop
invariant-loop l = record {
  items : l.values.items ≡ l.fn.values.items ++ replicate l.counter l.value;
  room : l.fn.values.room ≤ l.values.room;
}
