-- The result of a call: what invocation (WebAssembly Core Specification 1.0, section 4.5.5) gives a fresh instance, whose
-- start function (section 4.5.4) runs first and on the same fuel.
use Rattle.std.specs.Prelude.{ℕ, List, [], Bool, true, false, if◌then◌else◌, Option, Some, None, slice_get, reverse}
use Rattle.wasm_values.specs.declared.outcome.Val.{Val}
use Rattle.wasm_values.specs.declared.outcome.Outcome.{Outcome}
use Rattle.wasm_values.specs.declared.outcome.Outcome.TheVariants as outcome
use Rattle.wasm_types.specs.Tree.{ModuleTree}
use Rattle.wasm_spec.specs.Store.{Store, fresh_store}
use Rattle.wasm_spec.specs.Execution.{Terms, Next, Trapped, OutOfFuel, Ended, Continuation, exec, call, with_function}

-- how a call ended, and what it left
pub record CallResult : Type 0 where
  pub outcome : Outcome
  pub store : Store
  pub fuel : ℕ

-- whether it ended well
abbrev pub is_done : Outcome → Bool
is_done (outcome.Done v) = true
is_done _ = false

-- The bytes that it answers: those that were appended, where it ended well, and else none.
abbrev pub answer_of : CallResult → List ℕ
answer_of r = if is_done r.outcome then r.store.answer else []

-- where nothing follows
abbrev pub finish : Continuation
finish s fuel = (Next s, fuel)

-- A function of the module with these arguments on the operands, called from outside: its body begins at depth 1. One that
-- is imported has its effect alone, and costs nothing.
abbrev pub run_function : ModuleTree → Terms → ℕ → List Val → Store → ℕ → Ended
run_function m terms x arguments store fuel =
    with_function m x (call m terms 0 (exec m terms 1) finish)
    (record { locals = []; operands = reverse arguments; store = store }) fuel

-- what it comes to; nothing where the run is stuck, as no run of a valid module is
abbrev pub result_of : Ended → Option CallResult
result_of (Next s, fuel) = Some (record { outcome = outcome.Done (slice_get s.operands 0); store = s.store; fuel = fuel })
result_of (Trapped t store, fuel) = Some (record { outcome = outcome.Trap t; store = store; fuel = fuel })
result_of (OutOfFuel store, fuel) = Some (record { outcome = outcome.Fuel; store = store; fuel = fuel })
result_of _ = None

-- What one function gives from these parts.
abbrev pub function_result : ModuleTree → Terms → ℕ → List Val → Store → ℕ → Option CallResult
function_result m terms x arguments store fuel = result_of (run_function m terms x arguments store fuel)

-- what follows a run that ended well, and else that run's own result
abbrev pub if_done : Option CallResult → (Store → ℕ → Option CallResult) → Option CallResult
if_done None next = None
if_done (Some r) next = if is_done r.outcome then next r.store r.fuel else Some r

abbrev pub after_start : ModuleTree → Terms → Option ℕ → (Store → ℕ → Option CallResult) → Store → ℕ → Option CallResult
after_start m terms None next store fuel = next store fuel
after_start m terms (Some x) next store fuel = if_done (function_result m terms x [] store fuel) next

-- What a call gives from this store: the start function first, if there is one, and then the function.
abbrev pub result_from : ModuleTree → Terms → ℕ → List Val → Store → ℕ → Option CallResult
result_from m terms x arguments store fuel = after_start m terms m.start (function_result m terms x arguments) store fuel

-- What a call gives a fresh instance.
abbrev pub call_result : ModuleTree → Terms → ℕ → List Val → ℕ → Option CallResult
call_result m terms x arguments fuel = result_from m terms x arguments (fresh_store m) fuel
