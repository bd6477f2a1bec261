use Rattle.std.proofs.Common.{◌-◌, ◌++◌, ℕ, List, [], ◌∷◌, map, refl, ap, ◌∙◌, arith}
use Rattle.std.specs.List.{flat_map}
use Rattle.wasm_types.specs.declared.module.LocalRun.{LocalRun}
use Rattle.wasm_types.specs.Tree.{locals_of}
use Rattle.wasm_spec.specs.Execution.{zero_of}
use Rattle.machine_steps.specs.declared.machine.Machine.{Machine}
use Rattle.machine_steps.specs.declared.machine.Position.{Position}
use Rattle.wasm_machine.proofs.CallLemmas.{shown_called}
use Rattle.wasm_machine.proofs.calls.enter_function.Goals as goal

pub returns-clause-represents : goal.returns-clause-represents
returns-clause-represents c k sh le =
    let old : Machine = c.args.machine.now in
    let n = c.args.count in
    let base : ℕ = c.len.result - n in
    let at : Position = record { function = c.args.x; sequence = c.start_of.result; place = 0; locals = base; labels = c.len-2.result } in
    let new : Machine = record { at = at; values = c.push_zeros.new.values; labels = old.labels; frames = c.push_reserved.new.self } in
    shown_called c.args.m.now k c.args.x n old new base c.len-2.result sh le (omega (arith, c.len.ensures)) (omega (arith, c.len-2.ensures))
    (ap (λ (q : ℕ). record { function = c.args.x; sequence = q; place = 0; locals = base; labels = c.len-2.result }) c.start_of.ensures)
    (c.push_zeros.ensures.items ∙ ap (λ (runs : List LocalRun). old.values.items ++ map zero_of (flat_map locals_of runs)) c.local_runs.ensures)
    refl (c.push_reserved.ensures.items ∙ ap (λ (caller : Position). old.frames.items ++ caller ∷ []) c.of.ensures)
