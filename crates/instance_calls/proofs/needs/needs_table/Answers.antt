use Rattle.std.proofs.Common.{◌≡◌, [], subst}
use Rattle.std.proofs.lemmas.Bool.{not-false}
use Rattle.wasm_types.specs.declared.module.Module.{Module}
use Rattle.wasm_types.specs.Tree.{ModuleTree}
use Rattle.wasm_spec.proofs.ResultLaws.{length-fresh_table}
use Rattle.wasm_spec.proofs.WithinLemmas.{loaded-within}
use Rattle.pool_limits.specs.Limits.{load_limits}
use Rattle.instance_calls.proofs.InstanceLemmas.{bare_table}
use Rattle.instance_calls.proofs.needs.needs_table.Goals as goal

pub returns-clause-none : goal.returns-clause-none
returns-clause-none g c = λ absent.
    let config = g.N.Naming.config in
    let tree = c.args.loaded.now.module.now.tree in
    let loaded = c.valid.ensures.loaded in
    let within = loaded-within loaded.profile loaded.bytes (load_limits config) tree loaded.loads in
    let none : c.module.result.now.tables ≡ [] = c.is_empty.ensures.0 (not-false c.is_empty.result absent) in
    let of_valid : c.valid.result.now.tables ≡ [] = subst (λ (m : Module). m.tables ≡ []) c.module.ensures.same none in
    bare_table tree (subst (λ (m : ModuleTree). m.tables ≡ []) c.valid.ensures.tree of_valid)
    (length-fresh_table tree within.segments)
