use Rattle.std.proofs.Common.{◌≡◌, ◌<◌, ◌^◌, length, take, flat_map}
use Rattle.wasm_types.specs.Tree.{locals_of}
use Rattle.wasm_decode.proofs.function.are_few.Given as goal

abbrev pub invariant-loop-run : goal.invariant-loop-run
invariant-loop-run l = record {
  total : l.total ≡ length (flat_map locals_of (take l.run-index l.runs));
  few : l.total < 2 ^ 32;
}
