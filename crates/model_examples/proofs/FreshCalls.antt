-- Calls on fresh instances of their own, turn by turn.
use Rattle.std.proofs.Common.{◌≡◌, ℕ, true, List, [], ◌∷◌, refl}
use Rattle.std.specs.Prelude.{Option, Some, None}
use Rattle.wasm_values.specs.declared.outcome.Val.TheVariants.{I32}
use Rattle.wasm_values.specs.declared.outcome.Outcome.TheVariants as outcome
use Rattle.wasm_types.specs.declared.types.ValType.TheVariants as type
use Rattle.wasm_types.specs.declared.instr.Instr.TheVariants as instr
use Rattle.wasm_types.specs.Tree.{Code, End, Plain, ModuleTree}
use Rattle.wasm_spec.specs.Execution.{exec}
use Rattle.wasm_spec.proofs.AddModule.{add, add_function}
use Rattle.pool_core.specs.declared.events.Event.TheVariants.{Load}
use Rattle.pool_model.specs.Contents.{Named}
use Rattle.pool_model.specs.declared.kinds.Kind.TheVariants.{Instance, Memory}
use Rattle.pool_model.specs.PoolMachine.{InstanceLimits, Request, WorldEvent, Step, Prepare, Restore, Begin, Turn, End, Cancel}
use Rattle.pool_model.specs.FreshMachine.{FreshCall, fresh_answer, fresh_after_all, nothing_runs}
use Rattle.model_examples.proofs.NoCode.{no_code}

abbrev pub limits : InstanceLimits
limits = record { pages = 1; elements = 0; frame = 8; depth = 4 }

-- sets the global to 5
abbrev setting : Code
setting = Plain (instr.Const (I32 5)) (Plain (instr.GlobalSet 0) End)

abbrev pub set_module : ModuleTree
set_module = record add {
  types = record { params = []; results = [] } ∷ [];
  functions = record add_function { body = setting } ∷ [];
  globals = record { global_type = record { value = type.I32; mutable = true }; init = Plain (instr.Const (I32 1)) End } ∷ [];
}

abbrev named : Named
named = record { number = 0; tag = 0; tree = set_module; code = no_code }

abbrev request : Request
request = record { named = named; function = 0; arguments = []; sent = []; fuel = 2 }

abbrev call_with : ℕ → ℕ → Option FreshCall
call_with global turns = Some (record { request = request; store = record { memory = []; table = []; globals = I32 global ∷ []; answer = [] }; turns = turns })

abbrev after_events : List WorldEvent → ℕ → Option FreshCall
after_events es i = fresh_after_all limits nothing_runs es i

nothing_has_begun : after_events [] 3 ≡ None
nothing_has_begun = refl

-- it begins with the fresh store, and each turn leaves what the call leaves on one more unit of fuel
begun : after_events (Begin 3 request ∷ []) 3 ≡ call_with 1 0
begun = refl

one_turn : after_events (Begin 3 request ∷ Turn 3 [] ∷ []) 3 ≡ call_with 1 1
unfolding exec
one_turn = refl

two_turns : after_events (Begin 3 request ∷ Turn 3 [] ∷ Turn 3 [] ∷ []) 3 ≡ call_with 5 2
unfolding exec
two_turns = refl

-- what others do, and what is done with slots, is of no account
others_turns : after_events (Begin 3 request ∷ Turn 2 [] ∷ Begin 1 request ∷ Turn 1 [] ∷ End 1 [] ∷ []) 3 ≡ call_with 1 0
unfolding exec
others_turns = refl

slots_are_of_no_account : after_events (Begin 3 request ∷ Step Instance (Load 3 0) ∷ Prepare Memory 3 named ∷ Restore Memory 3 ∷ []) 3 ≡ call_with 1 0
slots_are_of_no_account = refl

ended : after_events (Begin 3 request ∷ Turn 3 [] ∷ End 3 [] ∷ []) 3 ≡ None
unfolding exec
ended = refl

given_up : after_events (Begin 3 request ∷ Turn 3 [] ∷ Cancel 3 ∷ []) 3 ≡ None
unfolding exec
given_up = refl

-- the answer is that on all of its fuel
answered : fresh_answer limits request ≡ Some (outcome.Done None, [])
unfolding exec
answered = refl

answered_on_less : fresh_answer limits (record request { fuel = 1 }) ≡ Some (outcome.Fuel, [])
unfolding exec
answered_on_less = refl
