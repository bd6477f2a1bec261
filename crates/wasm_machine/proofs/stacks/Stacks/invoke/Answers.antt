use Rattle.std.proofs.Common.{◌≡◌, ℕ, ◌+◌, ◌-◌, ◌*◌, length, Option, Some, refl, ap, ◌∙◌, sym, subst, arith}
use Rattle.wasm_types.specs.declared.module.Module.{Module}
use Rattle.wasm_types.specs.Tree.{module_tree}
use Rattle.wasm_spec.specs.Execution.{Stuck}
use Rattle.wasm_spec.specs.Result.{CallResult, function_result, run_function}
use Rattle.wasm_spec.specs.Instances.{room_for}
use Rattle.machine_steps.specs.Lent.{store_of}
use Rattle.wasm_machine.specs.Calls.{IsOwnCall}
use Rattle.wasm_machine.specs.Lent.{own, run_store, run_terms}
use Rattle.wasm_machine.specs.Resuming.{Resumes}
use Rattle.wasm_machine.proofs.MarkLemmas.{marks_as}
use Rattle.wasm_machine.proofs.OutsideLemmas.{own_call}
use Rattle.wasm_machine.proofs.ResultLemmas.{not_both, runnable_as}
use Rattle.wasm_machine.proofs.RunLemmas.{marked_at}
use Rattle.wasm_machine.proofs.stacks.Stacks.invoke.Goals as goal

-- ---- an import

pub run_import-requires-clause-runs : goal.run_import-requires-clause-runs
run_import-requires-clause-runs c = (
  c.args.self.now.room.frame,
  runnable_as c.module-m.result.now c.args.inputs.now.valid.now c.args.self.now.room.frame c.module-m.ensures.same c.module-m.ensures.supported c.module-m.ensures.valid c.requires.frame c.module-m.ensures.locals,
)

pub returns-then-x-imported-clause-result : goal.returns-then-x-imported-clause-result
returns-then-x-imported-clause-result c =
    let valid : Module = c.args.inputs.now.valid.now in
    let limits = run_terms c.args.inputs.now in
    let globals = own valid c.args.globals.now in
    let before = store_of c.args.memory.now c.args.inputs.now.table.now globals c.args.answer.now in
    let after = store_of c.run_import.new.memory c.args.inputs.now.table.now globals c.run_import.new.answer in
    let ended_as : ℕ → Option CallResult = λ n. Some (record { outcome = c.run_import.result.outcome; store = after; fuel = n }) in
    subst (λ (n : Module). function_result (module_tree n) limits c.args.function c.args.args.now before c.args.fuel ≡ ended_as c.run_import.result.left) c.module-m.ensures.same
    (c.run_import.ensures.result c.args.inputs.now.limits c.args.inputs.now.table.now globals c.args.fuel ∙ ap ended_as (sym c.run_import.ensures.left))

pub returns-then-x-imported-clause-ended : goal.returns-then-x-imported-clause-ended
returns-then-x-imported-clause-ended c done more =
    let valid : Module = c.args.inputs.now.valid.now in
    let limits = run_terms c.args.inputs.now in
    let globals = own valid c.args.globals.now in
    let before = store_of c.args.memory.now c.args.inputs.now.table.now globals c.args.answer.now in
    let y : CallResult = record { outcome = c.run_import.result.outcome; store = store_of c.run_import.new.memory c.args.inputs.now.table.now globals c.run_import.new.answer; fuel = more } in
    let none : c.args.fuel - c.run_import.result.left + more ≡ more = omega (arith, c.run_import.ensures.left) in
    ap (λ (n : ℕ). function_result (module_tree valid) limits c.args.function c.args.args.now before n) none
    ∙ subst (λ (n : Module). function_result (module_tree n) limits c.args.function c.args.args.now before more ≡ Some y) c.module-m.ensures.same (c.run_import.ensures.result c.args.inputs.now.limits c.args.inputs.now.table.now globals more)

pub returns-then-x-imported-clause-stands : goal.returns-then-x-imported-clause-stands
returns-then-x-imported-clause-stands c out = absurd (not_both c.run_import.result.outcome c.run_import.ensures.ended out)

pub returns-then-x-imported-clause-still : goal.returns-then-x-imported-clause-still
returns-then-x-imported-clause-still c out = absurd (not_both c.run_import.result.outcome c.run_import.ensures.ended out)

pub returns-then-x-imported-clause-marked : goal.returns-then-x-imported-clause-marked
returns-then-x-imported-clause-marked c turns r le e =
    let valid : Module = c.args.inputs.now.valid.now in
    let limits = run_terms c.args.inputs.now in
    let globals = own valid c.args.globals.now in
    let before = store_of c.args.memory.now c.args.inputs.now.table.now globals c.args.answer.now in
    let y : CallResult = record { outcome = c.run_import.result.outcome; store = store_of c.run_import.new.memory c.args.inputs.now.table.now globals c.run_import.new.answer; fuel = turns } in
    let there : function_result (module_tree valid) limits c.args.function c.args.args.now before turns ≡ Some y =
    subst (λ (n : Module). function_result (module_tree n) limits c.args.function c.args.args.now before turns ≡ Some y) c.module-m.ensures.same (c.run_import.ensures.result c.args.inputs.now.limits c.args.inputs.now.table.now globals turns) in
    let marks = c.run_import.ensures.marks in
    marked_at (λ g. (Stuck, g)) c.args.memory.now (room_for valid.memories c.args.inputs.now.limits.pages) marks.added c.run_import.new.memory r y
    (function_result (module_tree valid) limits c.args.function c.args.args.now before turns) (c.run_import.ensures.memory (room_for valid.memories c.args.inputs.now.limits.pages) c.requires.memory) marks.changes there refl e

pub returns-then-x-imported-clause-marks : goal.returns-then-x-imported-clause-marks
returns-then-x-imported-clause-marks c =
    marks_as c.module-m.result.now c.args.inputs.now.valid.now c.args.memory.now c.run_import.new.memory (2 * (c.args.fuel - c.run_import.result.left)) c.module-m.ensures.same c.run_import.ensures.marks

-- ---- an own function

pub begin-requires-clause-call : goal.begin-requires-clause-call
begin-requires-clause-call c =
    let counted : c.len-imported.result ≡ length c.args.inputs.now.valid.now.imports = c.len-imported.ensures ∙ ap (λ (n : Module). length n.imports) c.module-m.ensures.same in
    subst (λ (k : ℕ). IsOwnCall c.args.inputs.now.valid.now (c.args.function - k) c.args.args.now) (sym counted)
    (own_call c.args.inputs.now.valid.now c.args.function c.args.args.now c.requires.call (omega arith))

pub advance-requires-clause-resumes : goal.advance-requires-clause-resumes
advance-requires-clause-resumes c =
    let m : Module = c.args.inputs.now.valid.now in
    let limits = run_terms c.args.inputs.now in
    let store = run_store c.args.inputs.now c.args.memory.now c.args.globals.now c.args.answer.now in
    let counted : c.len-imported.result ≡ length m.imports = c.len-imported.ensures ∙ ap (λ (n : Module). length n.imports) c.module-m.ensures.same in
    let number : length m.imports + (c.args.function - c.len-imported.result) ≡ c.args.function = omega arith in
    record {
      to = run_function (module_tree m) limits c.args.function c.args.args.now store;
      resumes = subst (λ (k : ℕ). Resumes m limits c.begin.new.self store (run_function (module_tree m) limits k c.args.args.now store)) number
          (c.begin.ensures.begins limits store c.requires.depth c.requires.frames c.requires.store);
    }

pub returns-clause-result : goal.returns-clause-result
returns-clause-result c =
    let m : Module = c.args.inputs.now.valid.now in
    let limits = run_terms c.args.inputs.now in
    let store = run_store c.args.inputs.now c.args.memory.now c.args.globals.now c.args.answer.now in
    let counted : c.len-imported.result ≡ length m.imports = c.len-imported.ensures ∙ ap (λ (n : Module). length n.imports) c.module-m.ensures.same in
    let number : length m.imports + (c.args.function - c.len-imported.result) ≡ c.args.function = omega arith in
    let resumes = subst (λ (k : ℕ). Resumes m limits c.begin.new.self store (run_function (module_tree m) limits k c.args.args.now store)) number
    (c.begin.ensures.begins limits store c.requires.depth c.requires.frames c.requires.store) in
    c.advance.ensures.result (run_function (module_tree m) limits c.args.function c.args.args.now store) resumes

pub returns-clause-ended : goal.returns-clause-ended
returns-clause-ended c done more =
    let m : Module = c.args.inputs.now.valid.now in
    let limits = run_terms c.args.inputs.now in
    let store = run_store c.args.inputs.now c.args.memory.now c.args.globals.now c.args.answer.now in
    let counted : c.len-imported.result ≡ length m.imports = c.len-imported.ensures ∙ ap (λ (n : Module). length n.imports) c.module-m.ensures.same in
    let number : length m.imports + (c.args.function - c.len-imported.result) ≡ c.args.function = omega arith in
    let resumes = subst (λ (k : ℕ). Resumes m limits c.begin.new.self store (run_function (module_tree m) limits k c.args.args.now store)) number
    (c.begin.ensures.begins limits store c.requires.depth c.requires.frames c.requires.store) in
    c.advance.ensures.ended done (run_function (module_tree m) limits c.args.function c.args.args.now store) resumes more

pub returns-clause-stands : goal.returns-clause-stands
returns-clause-stands c out =
    let m : Module = c.args.inputs.now.valid.now in
    let limits = run_terms c.args.inputs.now in
    let store = run_store c.args.inputs.now c.args.memory.now c.args.globals.now c.args.answer.now in
    let counted : c.len-imported.result ≡ length m.imports = c.len-imported.ensures ∙ ap (λ (n : Module). length n.imports) c.module-m.ensures.same in
    let number : length m.imports + (c.args.function - c.len-imported.result) ≡ c.args.function = omega arith in
    let resumes = subst (λ (k : ℕ). Resumes m limits c.begin.new.self store (run_function (module_tree m) limits k c.args.args.now store)) number
    (c.begin.ensures.begins limits store c.requires.depth c.requires.frames c.requires.store) in
    c.advance.ensures.stands out (run_function (module_tree m) limits c.args.function c.args.args.now store) resumes

pub returns-clause-marked : goal.returns-clause-marked
returns-clause-marked c =
    let m : Module = c.args.inputs.now.valid.now in
    let limits = run_terms c.args.inputs.now in
    let store = run_store c.args.inputs.now c.args.memory.now c.args.globals.now c.args.answer.now in
    let counted : c.len-imported.result ≡ length m.imports = c.len-imported.ensures ∙ ap (λ (n : Module). length n.imports) c.module-m.ensures.same in
    let number : length m.imports + (c.args.function - c.len-imported.result) ≡ c.args.function = omega arith in
    let resumes = subst (λ (k : ℕ). Resumes m limits c.begin.new.self store (run_function (module_tree m) limits k c.args.args.now store)) number
    (c.begin.ensures.begins limits store c.requires.depth c.requires.frames c.requires.store) in
    c.advance.ensures.marked (run_function (module_tree m) limits c.args.function c.args.args.now store) resumes
