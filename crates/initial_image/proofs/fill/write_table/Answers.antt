use Rattle.wasm_types.specs.Tree.{module_tree}
use Rattle.initial_image.proofs.MisfitLemmas.{elements-fit}
use Rattle.initial_image.proofs.fill.write_table.Goals as goal

pub write_elements-requires-clause-fit : goal.write_elements-requires-clause-fit
write_elements-requires-clause-fit c = rw c.module-m.ensures.same (elements-fit (module_tree c.args.valid.now) c.requires.fit)
