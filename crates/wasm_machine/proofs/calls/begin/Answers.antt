use Rattle.std.proofs.Common.{◌++◌, ℕ, List, map, ap, ◌∙◌, arith}
use Rattle.std.specs.List.{flat_map}
use Rattle.wasm_values.specs.declared.outcome.Val.{Val}
use Rattle.wasm_types.specs.declared.module.LocalRun.{LocalRun}
use Rattle.wasm_types.specs.Tree.{locals_of}
use Rattle.wasm_spec.specs.Execution.{zero_of}
use Rattle.machine_steps.specs.declared.machine.Machine.{Machine}
use Rattle.machine_steps.specs.declared.machine.Position.{Position}
use Rattle.machine_steps.specs.StackLayout.{KeepsRoom}
use Rattle.wasm_machine.proofs.BeginLemmas.{begins_run}
use Rattle.wasm_machine.proofs.calls.begin.Goals as goal

pub returns-clause-simulates : goal.returns-clause-simulates
returns-clause-simulates c limits frame store run call deep stored room =
    let old : Machine = c.args.machine.now in
    let at : Position = record { function = c.args.x; sequence = c.start_of.result; place = 0; locals = 0; labels = 0 } in
    let new : Machine = record { at = at; values = c.push_zeros.new.values; labels = c.clear-2.new.self; frames = c.clear-3.new.self } in
    let keeps : KeepsRoom old new = record {
      values = omega (arith, c.clear.ensures.room, c.push_all.ensures.room, c.push_zeros.ensures.room);
      labels = omega (arith, c.clear-2.ensures.capacity);
      frames = omega (arith, c.clear-3.ensures.capacity);
    } in
    begins_run c.args.m.now limits frame c.args.x c.args.args.now old new store run call deep stored room keeps
    (ap (λ (q : ℕ). record { function = c.args.x; sequence = q; place = 0; locals = 0; labels = 0 }) c.start_of.ensures)
    (c.push_zeros.ensures.items
    ∙ ap (λ (l : List Val). l ++ map zero_of (flat_map locals_of c.local_runs.result.now)) (c.push_all.ensures.items ∙ ap (λ (l : List Val). l ++ c.args.args.now) c.clear.ensures.items)
    ∙ ap (λ (runs : List LocalRun). c.args.args.now ++ map zero_of (flat_map locals_of runs)) c.local_runs.ensures)
    c.clear-2.ensures.items c.clear-3.ensures.items
