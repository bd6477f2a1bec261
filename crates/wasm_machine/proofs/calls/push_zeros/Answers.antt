use Rattle.std.proofs.Common.{◌++◌, List, length, map, take, get_or, replicate, sym, ap, ◌∙◌, arith, append_assoc, length-append}
use Rattle.std.proofs.lemmas.List.{take_all}
use Rattle.std.specs.List.{flat_map}
use Rattle.wasm_types.specs.declared.types.ValType.TheVariants.{I32}
use Rattle.wasm_values.specs.declared.outcome.Val.{Val}
use Rattle.wasm_types.specs.declared.module.LocalRun.{LocalRun}
use Rattle.wasm_types.specs.Tree.{locals_of}
use Rattle.wasm_spec.specs.Execution.{zero_of}
use Rattle.wasm_machine.proofs.ZeroLemmas.{zeros_more, zeros_fit}
use Rattle.wasm_machine.proofs.calls.push_zeros.Goals as goal

pub fill-requires : goal.fill-requires
fill-requires c =
    let d : LocalRun = record { count = 0; value = I32 } in
    let before = map zero_of (flat_map locals_of (take c.loop-run.run-index c.args.runs.now)) in
    omega (arith, zeros_fit c.args.runs.now c.loop-run.run-index d c.loop-run-test.true, ap length c.loop-run.invariant.items, length-append c.args.values.now.items before)

pub loop-run-preserved : goal.loop-run-preserved
loop-run-preserved c =
    let d : LocalRun = record { count = 0; value = I32 } in
    let run : LocalRun = get_or c.args.runs.now c.loop-run.run-index d in
    let before = map zero_of (flat_map locals_of (take c.loop-run.run-index c.args.runs.now)) in
    record {
      items =
          c.fill.ensures.items
          ∙ ap (λ (l : List Val). l ++ replicate run.count c.zero.result) c.loop-run.invariant.items
          ∙ ap (λ (v : Val). (c.args.values.now.items ++ before) ++ replicate run.count v) c.zero.ensures
          ∙ append_assoc c.args.values.now.items before (replicate run.count (zero_of run.value))
          ∙ ap (λ (l : List Val). c.args.values.now.items ++ l) (sym (zeros_more c.args.runs.now c.loop-run.run-index d c.loop-run-test.true));
      room = omega (arith, c.fill.ensures.room);
    }

pub returns-clause-items : goal.returns-clause-items
returns-clause-items c =
    c.loop-run.invariant.items ∙ ap (λ (l : List LocalRun). c.args.values.now.items ++ map zero_of (flat_map locals_of l)) (take_all c.loop-run.run-index c.args.runs.now c.loop-run-test.false)
