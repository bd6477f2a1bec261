use Rattle.std.proofs.Common.{◌≡◌, ℕ, ◌<◌, get_or, map}
use Rattle.wasm_types.specs.declared.module.Function.{Function}
use Rattle.wasm_types.specs.Tree.{function_tree}
use Rattle.wasm_validate.specs.Locals.{HasNoEmptyRun}
use Rattle.wasm_validate.proofs.locals.drop_all_empty_runs.Given as goal

abbrev pub invariant-loop-f : goal.invariant-loop-f
invariant-loop-f l = record {
  trees : map function_tree l.f-items ≡ map function_tree l.fn.functions.items;
  kept : (k : ℕ) (d : Function) → k < l.f-index → HasNoEmptyRun (get_or l.f-items k d);
}
