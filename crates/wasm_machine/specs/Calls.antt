-- A call from outside.
use Rattle.std.specs.Prelude.{◌≡◌, ℕ, ◌≤◌, List, [], map, Option, Some, None, reverse, slice_get}
use Rattle.wasm_values.specs.declared.outcome.Val.TheVariants as val
use Rattle.wasm_values.specs.declared.outcome.TrapKind.TheVariants as trap
use Rattle.wasm_spec.specs.Store.{Store}
use Rattle.wasm_spec.specs.Execution.{State, Signal, Next, Trapped}
use Rattle.wasm_types.specs.declared.types.FuncType.{FuncType}
use Rattle.wasm_values.specs.declared.outcome.Val.{Val}
use Rattle.wasm_values.specs.declared.outcome.Outcome.{Outcome}
use Rattle.wasm_values.specs.declared.outcome.Outcome.TheVariants as outcome
use Rattle.wasm_types.specs.declared.module.Module.{Module}
use Rattle.wasm_types.specs.Tree.{FunctionTree, module_tree}
use Rattle.wasm_spec.specs.Functions.{function_type}
use Rattle.wasm_spec.specs.Typing.{type_of}
use Rattle.wasm_spec.specs.Need.{need}

-- the module has this function, and the arguments have its types
pub record IsCall (m : Module) (x : ℕ) (args : List Val) : Type 0 where
  pub type : FuncType
  pub typed : function_type (module_tree m) x ≡ Some type
  pub args_fit : map type_of args ≡ type.params

-- the module has this function of its own, by its number among these, and the arguments have its types
pub record IsOwnCall (m : Module) (x : ℕ) (args : List Val) : Type 0 where
  pub function : FunctionTree
  pub type : FuncType
  pub there : slice_get (module_tree m).functions x ≡ Some function
  pub typed : slice_get m.types function.type_index ≡ Some type
  pub args_fit : map type_of args ≡ type.params

-- the need of each function fits a frame of this size
abbrev pub FitsFrame : Module → ℕ → Type 0
FitsFrame m frame = (x : ℕ) (f : FunctionTree) → slice_get (module_tree m).functions x ≡ Some f → need (module_tree m) f ≤ frame

abbrev pub IsDone : Outcome → Type 0
IsDone (outcome.Done v) = Unit {0}
IsDone _ = ⊥

-- the state in which a function is called from outside
abbrev pub outside : List Val → Store → State
outside args store = record { locals = []; operands = reverse args; store = store }

-- a function of the host ends so: with this number on the top, or by the trap of memory; and with this store
abbrev pub GivesOutside : Signal → Option ℕ → Store → Type 0
GivesOutside (Next s) (Some n) store = (slice_get s.operands 0 ≡ Some (val.I32 n)) × (s.store ≡ store)
GivesOutside (Trapped t before) None store = (t ≡ trap.Memory) × (before ≡ store)
GivesOutside _ _ store = ⊥
