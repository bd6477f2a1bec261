use Rattle.std.proofs.Common.{ℕ, List, ap, ◌∙◌, subst}
use Rattle.std.specs.Prelude.{IfNone}
use Rattle.wasm_types.specs.declared.module.Export.{Export}
use Rattle.wasm_types.specs.declared.module.Module.{Module}
use Rattle.wasm_spec.specs.Validity.{Exports}
use Rattle.wasm_validate.proofs.valid.Valid.function.Goals as goal

pub returns-clause-none : goal.returns-clause-none
returns-clause-none c =
    subst (λ (es : List Export). IfNone c.exported.result ((x : ℕ) → ¬ (Exports es c.args.export.now x))) (c.as_slice.ensures ∙ ap (λ (m : Module). m.exports) c.self.view_is) c.exported.ensures.none
