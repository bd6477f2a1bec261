use Rattle.std.proofs.Common.{◌≡◌, ℕ, List, ap, map, subst, sym}
use Rattle.wasm_types.specs.declared.module.Export.{Export}
use Rattle.wasm_types.specs.declared.module.Module.{Module}
use Rattle.wasm_types.specs.Tree.{ModuleTree, module_tree}
use Rattle.wasm_values.specs.declared.profile.Profile.{Profile}
use Rattle.wasm_spec.specs.Need.{need}
use Rattle.wasm_spec.specs.Validity.{IsSupported, IsValid}
use Rattle.wasm_spec.proofs.Supported.{widest}
use Rattle.wasm_validate.specs.ByName.{AreByName}
use Rattle.wasm_validate.specs.Checked.{IsValidated}
use Rattle.wasm_validate.specs.Locals.{HaveNoEmptyRun}
use Rattle.wasm_validate.proofs.valid.validate.Goals as goal

-- what is found of a module is kept of one of the same tree
validated : (profile : Profile) (m n : Module) (by_name needs : List ℕ) → module_tree n ≡ module_tree m → HaveNoEmptyRun n → IsSupported profile (module_tree m) → IsValid (module_tree m) → AreByName m.exports by_name
    → needs ≡ map (need (module_tree m)) (module_tree m).functions → IsValidated n by_name needs
validated profile m n by_name needs same locals supported valid exports_are needs_are = record {
  supported = subst (IsSupported _) (sym same) (widest profile (module_tree m) supported);
  valid = subst IsValid (sym same) valid;
  locals = locals;
  exports_are = subst (λ (es : List Export). AreByName es by_name) (sym (ap (λ (t : ModuleTree). t.exports) same)) exports_are;
  needs_are = subst (λ (t : ModuleTree). needs ≡ map (need t) t.functions) (sym same) needs_are;
}

pub invariant_of-result : goal.invariant_of-result
invariant_of-result c =
    let new = c.without_empty_runs.ensures in
    let checked = c.in_ok-by_name.ensures in
    validated c.args.profile c.args.m c.without_empty_runs.result _ _ new.tree new.kept (c.in_ok-is_supported.ensures.0 c.if-not-branch.false) checked.valid checked.by_name checked.needs

pub returns-clause-tree : goal.returns-clause-tree
returns-clause-tree c = c.without_empty_runs.ensures.tree

pub returns-clause-supported : goal.returns-clause-supported
returns-clause-supported c = c.in_ok-is_supported.ensures.0 c.if-not-branch.false

pub returns-clause-valid : goal.returns-clause-valid
returns-clause-valid c = c.in_ok-by_name.ensures.valid
