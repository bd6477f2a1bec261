-- The function that is checked.
use Rattle.std.specs.Prelude.{◌≤◌, List, ◌++◌, All, Option, length, slice_get}
use Rattle.wasm_types.specs.declared.types.ValType.{ValType}
use Rattle.wasm_types.specs.declared.module.Function.{Function}
use Rattle.wasm_types.specs.declared.module.Module.{Module}
use Rattle.wasm_types.specs.Tree.{function_tree, module_tree}
use Rattle.wasm_spec.specs.Typing.{result_types, Context, own_type}

-- each function type has at most one result
abbrev pub HaveOneResult : Module → Type 0
HaveOneResult m = All (λ t. length t.results ≤ 1) m.types

abbrev pub result_of : Module → Function → Option ValType
result_of m f = slice_get (own_type (module_tree m) (function_tree f)).results 0

abbrev pub all_locals : Module → Function → List ValType
all_locals m f = (own_type (module_tree m) (function_tree f)).params ++ (function_tree f).locals

abbrev pub context : Module → Function → List (List ValType) → Context
context m f labels = record { defined = module_tree m; locals = all_locals m f; labels = labels; results = result_types (result_of m f) }
