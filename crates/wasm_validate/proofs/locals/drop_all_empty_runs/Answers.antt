use Rattle.std.proofs.Common.{◌≢◌, ◌<◌, length, get_or, set, sym, ◌∙◌, subst, arith, below_more, get_or-set_other, get_or-set_same}
use Rattle.std.proofs.Math.Seq.{map-set_same}
use Rattle.wasm_types.specs.declared.module.Function.{Function}
use Rattle.wasm_types.specs.Tree.{function_tree}
use Rattle.wasm_validate.specs.Locals.{HasNoEmptyRun}
use Rattle.wasm_validate.proofs.locals.drop_all_empty_runs.Goals as goal

pub loop-f-preserved : goal.loop-f-preserved
loop-f-preserved c =
    let items = c.loop-f.f-items in
    let i = c.loop-f.f-index in
    let new : Function = c.drop_empty_runs.new.f in
    let within : i < length items = omega (arith, c.loop-f-test.true) in
    let each = below_more (λ k. (d : Function) → HasNoEmptyRun (get_or (set items i new) k d)) i
    (λ k h d. let other : k ≢ i = omega (arith, h) in subst HasNoEmptyRun (sym (get_or-set_other items i k new d other)) (c.loop-f.invariant.kept k d h))
    (λ d. subst HasNoEmptyRun (sym (get_or-set_same items i new d within)) c.drop_empty_runs.ensures.kept) in
    record {
      trees = map-set_same function_tree items i new c.f-item.result c.drop_empty_runs.ensures.tree ∙ c.loop-f.invariant.trees;
      kept = λ k d h. each k h d;
    }
