use Rattle.std.proofs.Common.{◌≡◌, List, map, subst, refl, sym, ap, ◌∙◌}
use Rattle.std.specs.Prelude.{None}
use Rattle.std.proofs.lemmas.Result.{err_from_is_err_and}
use Rattle.wasm_types.specs.declared.module.Module.{Module}
use Rattle.wasm_types.specs.declared.module.Global.{Global}
use Rattle.wasm_types.specs.Tree.{global_tree, module_tree}
use Rattle.wasm_spec.specs.Store.{first_misfit}
use Rattle.initial_image.specs.Image.{IsImageOf}
use Rattle.initial_image.specs.Segments.{Names, first_value}
use Rattle.initial_image.proofs.MisfitLemmas.{first_misfit-none, Names-element, Names-data}
use Rattle.initial_image.proofs.TableLemmas.{map-first_value}
use Rattle.initial_image.proofs.image.build.Goals as goal

pub returns-in_err-check_elements-clause-misfit : goal.returns-in_err-check_elements-clause-misfit
returns-in_err-check_elements-clause-misfit c =
    let p = err_from_is_err_and c.from_residual.result c.from_residual.ensures.1 in
    let fault = c.in_err-check_elements.field-0.0 in
    rw (p.1, p.2) (subst (λ (m : Module). Names (first_misfit (module_tree m)) fault) c.module-m.ensures.same
    (Names-element (module_tree c.module-m.result.now) fault c.in_err-check_elements.ensures.misfit))

pub returns-in_err-check_data-clause-misfit : goal.returns-in_err-check_data-clause-misfit
returns-in_err-check_data-clause-misfit c =
    let p = err_from_is_err_and c.from_residual-in_err-check_data.result c.from_residual-in_err-check_data.ensures.1 in
    let fault = c.in_err-check_data.field-0.0 in
    rw (p.1, p.2) (subst (λ (m : Module). Names (first_misfit (module_tree m)) fault) c.module-m.ensures.same
    (Names-data (module_tree c.module-m.result.now) fault c.in_ok-check_elements.ensures.fit c.in_err-check_data.ensures.misfit))

pub returns-clause-fits : goal.returns-clause-fits
returns-clause-fits c =
    subst (λ (m : Module). first_misfit (module_tree m) ≡ None) c.module-m.ensures.same
    (first_misfit-none (module_tree c.module-m.result.now) c.in_ok-check_elements.ensures.fit c.in_ok-check_data.ensures.fit)

pub returns-clause-image : goal.returns-clause-image
returns-clause-image c =
    let values : c.new.result ≡ map first_value (map global_tree c.module-m.result.now.globals) =
    c.new.ensures ∙ c.in_ok-globals.ensures ∙ ap (λ (gs : List Global). map (λ g. first_value (global_tree g)) gs) c.as_slice.ensures ∙ sym (map-first_value c.module-m.result.now.globals) in
    subst (λ (m : Module). IsImageOf (module_tree m) (record { memory = c.in_ok-memory.memory; globals = c.new.result; start = c.module-m.result.now.start })) c.module-m.ensures.same
    (record {
      memory = c.in_ok-memory.ensures.memory;
      blocks = c.in_ok-memory.ensures.blocks;
      globals = values;
      start = refl;
    })
