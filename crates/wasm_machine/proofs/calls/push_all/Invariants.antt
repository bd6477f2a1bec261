use Rattle.std.proofs.Common.{◌≡◌, ◌≤◌, ◌++◌, take}
use Rattle.wasm_machine.proofs.calls.push_all.Given as goal

abbrev pub invariant-loop-value : goal.invariant-loop-value
invariant-loop-value l = record {
  items : l.values.items ≡ l.fn.values.items ++ take l.value-index l.more;
  room : l.fn.values.room ≤ l.values.room;
}
