use Rattle.std.proofs.Common.{◌≡◌, [], subst}
use Rattle.std.proofs.lemmas.Bool.{not-false}
use Rattle.wasm_types.specs.declared.module.Module.{Module}
use Rattle.wasm_types.specs.Tree.{ModuleTree}
use Rattle.wasm_spec.proofs.ResultLaws.{length-fresh_memory}
use Rattle.wasm_spec.proofs.WithinLemmas.{loaded-within}
use Rattle.pool_limits.specs.Limits.{load_limits}
use Rattle.instance_calls.proofs.InstanceLemmas.{bare_memory}
use Rattle.instance_calls.proofs.needs.needs_memory.Goals as goal

pub returns-clause-none : goal.returns-clause-none
returns-clause-none g c = λ absent.
    let config = g.N.Naming.config in
    let tree = c.args.loaded.now.module.now.tree in
    let loaded = c.valid.ensures.loaded in
    let within = loaded-within loaded.profile loaded.bytes (load_limits config) tree loaded.loads in
    let none : c.module.result.now.memories ≡ [] = c.is_empty.ensures.0 (not-false c.is_empty.result absent) in
    let of_valid : c.valid.result.now.memories ≡ [] = subst (λ (m : Module). m.memories ≡ []) c.module.ensures.same none in
    bare_memory config tree (subst (λ (m : ModuleTree). m.memories ≡ []) c.valid.ensures.tree of_valid)
    (length-fresh_memory tree within.segments)
