-- A module's own functions, by their numbers.
use Rattle.std.proofs.Common.{◌≡◌, ℕ, ◌<◌, length, Some, ap, ◌∙◌, arith}
use Rattle.std.specs.Prelude.{slice_get, option_and_then, option_map}
use Rattle.std.proofs.lemmas.List.{length-map}
use Rattle.std.proofs.lemmas.Option.{slice_get_within, slice_get-map, slice_get-get_or}
use Rattle.wasm_types.specs.declared.module.Module.{Module}
use Rattle.wasm_types.specs.Tree.{FunctionTree, function_tree, module_tree}
use Rattle.machine_steps.specs.declared.machine.Machine.{Machine}
use Rattle.machine_steps.specs.declared.machine.Position.{Position}
use Rattle.machine_steps.specs.Configuration.{Configuration}
use Rattle.machine_steps.specs.StackLayout.{Represents}
use Rattle.wasm_machine.specs.Remaining.{absent, body_type, function_of}

-- one that has a tree is there
pub own_there : (m : Module) (x : ℕ) (f : FunctionTree) → slice_get (module_tree m).functions x ≡ Some f → x < length m.functions
own_there m x f e = omega (arith, slice_get_within (module_tree m).functions x f e, length-map m.functions function_tree)

-- the type of one that is there
pub own_type : (m : Module) (x : ℕ) → x < length m.functions → body_type (module_tree m) x ≡ slice_get m.types (function_of m x).type_index
own_type m x there =
    ap (option_and_then (λ (f : FunctionTree). slice_get m.types f.type_index)) (slice_get-map function_tree m.functions x ∙ ap (option_map function_tree) (slice_get-get_or m.functions x absent there))

-- the machine stands in the configuration's function
pub stands_in : (m : Module) (k : Configuration) (machine : Machine) → Represents k machine → k.function < length m.functions → machine.at.function < length m.functions
stands_in m k machine represents there = omega (arith, there, ap (λ (at : Position). at.function) represents.at)
