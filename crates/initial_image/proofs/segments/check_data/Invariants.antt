use Rattle.std.proofs.Common.{◌≡◌}
use Rattle.wasm_types.specs.Tree.{data_tree, module_tree}
use Rattle.wasm_spec.specs.Store.{data_extent}
use Rattle.initial_image.specs.Segments.{first_data_misfit}
use Rattle.initial_image.proofs.SegmentLemmas.{misfit_from}
use Rattle.initial_image.proofs.segments.check_data.Given as goal

abbrev pub invariant-loop-place : goal.invariant-loop-place
invariant-loop-place l = misfit_from data_tree (data_extent (module_tree l.m)) l.m.data_segments l.place ≡ first_data_misfit (module_tree l.m)
