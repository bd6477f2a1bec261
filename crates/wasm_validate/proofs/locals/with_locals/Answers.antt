use Rattle.std.proofs.Common.{rules, List, nat_lt, ap, ◌∙◌}
use Rattle.std.specs.List.{flat_map}
use Rattle.std.proofs.lemmas.Fn.{filter_same, All-from_retain}
use Rattle.wasm_types.specs.declared.module.LocalRun.{LocalRun}
use Rattle.wasm_types.specs.Tree.{locals_of}
use Rattle.wasm_validate.specs.Locals.{HasLocals}
use Rattle.wasm_validate.proofs.EmptyRuns.{flat_map-filter}
use Rattle.wasm_validate.proofs.locals.with_locals.Goals as goal

pub returns-clause-locals : goal.returns-clause-locals
returns-clause-locals c =
    let kept = filter_same _ (λ (run : LocalRun). nat_lt 0 run.count) _ (λ x b f' k. search rules) _ _ c.retain.ensures.filtered in
    ap (λ (l : List LocalRun). flat_map locals_of l) (c.new.ensures ∙ kept) ∙ flat_map-filter c.into_vec-runs.result.items ∙ ap (λ (l : List LocalRun). flat_map locals_of l) c.into_vec-runs.ensures

pub returns-clause-kept : goal.returns-clause-kept
returns-clause-kept c = rw c.new.ensures (All-from_retain _ HasLocals _ (λ x b f' k. search rules) _ _ c.retain.ensures.filtered)
