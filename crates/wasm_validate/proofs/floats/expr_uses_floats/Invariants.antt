use Rattle.std.proofs.Common.{◌≡◌, [], map, take}
use Rattle.wasm_types.specs.Tree.{codes_from}
use Rattle.wasm_spec.specs.Validity.{code_uses_floats}
use Rattle.wasm_validate.proofs.floats.expr_uses_floats.Given as goal

abbrev pub invariant-loop-ops : goal.invariant-loop-ops
invariant-loop-ops l = l.earlier.items ≡ map code_uses_floats (codes_from [] (take l.ops-index l.e.sequences))
