-- What is still to do from a configuration on.
use Rattle.wasm_spec.specs.Execution.{Terms}
use Rattle.std.specs.Prelude.{ℕ, ◌+◌, List, [], ◌∷◌, Option, length, get_or, option_and_then, slice_get}
use Rattle.wasm_types.specs.declared.types.ValType.{ValType}
use Rattle.wasm_values.specs.declared.outcome.Val.{Val}
use Rattle.wasm_types.specs.declared.module.Function.{Function}
use Rattle.wasm_types.specs.declared.module.Module.{Module}
use Rattle.wasm_types.specs.declared.types.FuncType.{FuncType}
use Rattle.wasm_types.specs.Tree.{ModuleTree, module_tree}
use Rattle.wasm_spec.specs.Typing.{type_or_empty}
use Rattle.wasm_spec.specs.Store.{Store}
use Rattle.wasm_spec.specs.Execution.{State, Ended, Continuation, leave, return, exec}
use Rattle.wasm_spec.specs.Result.{finish}
use Rattle.wasm_types.specs.Sequences.{code_at}
use Rattle.machine_steps.specs.Configuration.{OpenBlock, Activation, Configuration, state}

-- Functions are named by their numbers among the module's own, since imports have no code. One that isn't there has none.
abbrev pub absent : Function
absent = record { type_index = 0; locals = []; body = record { sequences = [] } }

abbrev pub function_of : Module → ℕ → Function
function_of m x = get_or m.functions x absent

-- the type of one of the module's own functions, by its number among these
abbrev pub body_type : ModuleTree → ℕ → Option FuncType
body_type m x = option_and_then (λ f. slice_get m.types f.type_index) (slice_get m.functions x)

abbrev pub results : Module → ℕ → List ValType
results m x = (type_or_empty (body_type (module_tree m) x)).results

-- of a caller's state only its locals count once the call is made
abbrev pub resting : List Val → State
resting locals = record { locals = locals; operands = []; store = record { memory = []; table = []; globals = []; answer = [] } }

module _ (m : Module) (limits : Terms) where
  -- goes on at a place of a function
  abbrev pub resume_at : (depth x q place : ℕ) → Continuation
  resume_at depth x q place = exec (module_tree m) limits depth (code_at (function_of m x).body q place)

  -- what is left once the code inside these blocks has ended so
  abbrev pub leave_blocks : (depth x : ℕ) → List OpenBlock → Ended → Ended
  leave_blocks depth x [] e = e
  leave_blocks depth x (o ∷ os) e =
      leave_blocks depth x os (leave (length o.label) o.below e (resume_at depth x o.sequence o.after) (resume_at depth x o.sequence o.target))

  -- what is left once the body of a function has ended so
  abbrev pub return_to : (x : ℕ) → List Activation → Ended → Ended
  return_to x [] e = return (length (results m x)) (resting []) [] e finish
  return_to x (c ∷ cs) e =
      return_to c.function cs (leave_blocks (length cs + 1) c.function c.blocks
      (return (length (results m x)) (resting c.locals) c.below e (resume_at (length cs + 1) c.function c.sequence c.after)))

  -- what a run comes to whose current sequence ends so
  abbrev pub after_sequence : Configuration → Ended → Ended
  after_sequence k e = return_to k.function k.activations (leave_blocks (length k.activations + 1) k.function k.blocks e)

  abbrev pub run_from : Configuration → Store → ℕ → Ended
  run_from k store fuel = after_sequence k (resume_at (length k.activations + 1) k.function k.sequence k.place (state k store) fuel)
