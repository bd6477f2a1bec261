use Rattle.std.proofs.Common.{◌≡◌, map, take}
use Rattle.wasm_spec.specs.Typing.{type_of}
use Rattle.instance_calls.proofs.arguments.have_types.Given as goal

abbrev pub invariant-loop-index : goal.invariant-loop-index
invariant-loop-index l = take l.index (map type_of l.values) ≡ take l.index l.types
