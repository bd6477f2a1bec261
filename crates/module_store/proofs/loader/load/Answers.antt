use Rattle.std.proofs.Common.{rules, subst, sym}
use Rattle.std.proofs.lemmas.Result.{err_from_is_err_and}
use Rattle.wasm_types.specs.Tree.{module_tree}
use Rattle.wasm_spec.specs.Grammar.{Spells}
use Rattle.wasm_spec.specs.Validity.{IsSupported, IsValid}
use Rattle.pool_limits.specs.Limits.{load_limits}
use Rattle.module_store.proofs.RefusalLemmas.{IsRefusal-image}
use Rattle.module_store.proofs.loader.load.Goals as goal

pub returns-in_err-image-clause-refused : goal.returns-in_err-image-clause-refused
returns-in_err-image-clause-refused c =
    let p = err_from_is_err_and c.from_residual-in_err-image.result c.from_residual-in_err-image.ensures.1 in
    let same = sym c.in_ok-valid.ensures.tree in
    rw (p.1, p.2) (IsRefusal-image c.args.profile c.args.bytes.now (load_limits c.args.config.now) (module_tree c.in_ok-valid.valid) c.in_err-image.field-0.0
    (subst (Spells c.args.profile c.args.bytes.now) same c.in_ok-module.ensures.read)
    (subst (IsSupported c.args.profile) same c.in_ok-valid.ensures.supported)
    (subst IsValid same c.in_ok-valid.ensures.valid)
    (search rules)
    c.in_err-image.ensures.misfit)
