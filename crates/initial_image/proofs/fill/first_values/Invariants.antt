use Rattle.std.proofs.Common.{◌≡◌, map, take}
use Rattle.wasm_types.specs.Tree.{global_tree}
use Rattle.initial_image.specs.Segments.{first_value}
use Rattle.initial_image.proofs.fill.first_values.Given as goal

abbrev pub invariant-loop-global : goal.invariant-loop-global
invariant-loop-global l = l.values.items ≡ map (λ g. first_value (global_tree g)) (take l.global-index l.globals)
