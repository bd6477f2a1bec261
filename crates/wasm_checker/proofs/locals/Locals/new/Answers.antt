use Rattle.std.proofs.Common.{List, ◌++◌, ap, sym, ◌∙◌, arith}
use Rattle.std.proofs.lemmas.List.{append-nil, drop_all}
use Rattle.wasm_types.specs.declared.module.LocalRun.{LocalRun}
use Rattle.wasm_checker.specs.Runs.{ends_from}
use Rattle.wasm_checker.proofs.locals.Locals.new.Goals as goal

pub invariant_of-result : goal.invariant_of-result
invariant_of-result c =
    let ends = c.loop-run.ends.items in
    let none = drop_all c.loop-run.run-index c.args.runs.now (omega (arith, c.loop-run-test.false)) in
    sym (append-nil ends) ∙ ap (λ (rs : List LocalRun). ends ++ ends_from c.loop-run.end rs) (sym none) ∙ c.loop-run.invariant
