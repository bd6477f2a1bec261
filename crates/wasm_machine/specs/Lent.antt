-- The parts that are lent to a run of a module, as its store. Of the globals the first are the module's.
use Rattle.std.specs.Prelude.{◌≤◌, ℕ, List, Option, length, take, drop}
use Rattle.wasm_values.specs.declared.outcome.Val.{Val}
use Rattle.wasm_types.specs.declared.module.Module.{Module}
use Rattle.wasm_spec.specs.Execution.{Terms, terms_of}
use Rattle.wasm_spec.specs.Store.{Store}
use Rattle.linear_memory.specs.declared.memory.Memory.{Memory}
use Rattle.linear_memory.specs.Marks.{MarksChanges}
use Rattle.wasm_types.specs.Tree.{module_tree}
use Rattle.machine_steps.specs.Lent.{store_of}
use Rattle.wasm_spec.specs.Bulk.{HasFewMarks}
use Rattle.wasm_machine.specs.declared.inputs.RunInputs.{RunInputs}

-- the module's own globals
abbrev pub own : Module → List Val → List Val
own m globals = take (length m.globals) globals

-- and the others
abbrev pub others : Module → List Val → List Val
others m globals = drop (length m.globals) globals

abbrev pub lent_store : Module → Memory → List (Option ℕ) → List Val → List ℕ → Store
lent_store m memory table globals answer = store_of memory table (own m globals) answer

-- the terms of a run that reads these inputs
abbrev pub run_terms : RunInputs → Terms
run_terms inputs = terms_of inputs.limits inputs.request.now

-- and its store, on what else is lent to it
abbrev pub run_store : RunInputs → Memory → List Val → List ℕ → Store
run_store inputs memory globals answer = lent_store inputs.valid.now memory inputs.table.now globals answer

-- what changes is marked, and at most so many blocks more are, where the module has few marks
pub record MarksWithin (m : Module) (old new : Memory) (most : ℕ) : Type 0 where
  pub added : ℕ
  pub changes : MarksChanges old new added
  pub few : HasFewMarks (module_tree m) → added ≤ most
