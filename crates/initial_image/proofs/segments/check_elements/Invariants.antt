use Rattle.std.proofs.Common.{◌≡◌}
use Rattle.wasm_types.specs.Tree.{element_tree, module_tree}
use Rattle.wasm_spec.specs.Store.{element_extent}
use Rattle.initial_image.specs.Segments.{first_element_misfit}
use Rattle.initial_image.proofs.SegmentLemmas.{misfit_from}
use Rattle.initial_image.proofs.segments.check_elements.Given as goal

abbrev pub invariant-loop-place : goal.invariant-loop-place
invariant-loop-place l = misfit_from element_tree (element_extent (module_tree l.m)) l.m.element_segments l.place ≡ first_element_misfit (module_tree l.m)
