use Rattle.std.proofs.Common.{◌≡◌, map}
use Rattle.wasm_types.specs.Tree.{FunctionTree, function_tree}
use Rattle.wasm_spec.specs.Grammar.{body_of}
use Rattle.wasm_decode.specs.Bodies.{body_tree}
use Rattle.wasm_decode.proofs.function.join.Given as goal

abbrev pub invariant-loop-type_index : goal.invariant-loop-type_index
invariant-loop-type_index l = record {
  types : map (λ (f : FunctionTree). f.type_index) (map function_tree l.functions.items) ≡ map (λ p. p.0.now) l.yielded;
  bodies : map body_of (map function_tree l.functions.items) ≡ map (λ p. body_tree p.1.body) l.yielded;
}
