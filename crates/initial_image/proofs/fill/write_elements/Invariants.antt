use Rattle.std.proofs.Common.{◌≡◌, None, length, map, drop}
use Rattle.std.specs.Prelude.{fold}
use Rattle.wasm_types.specs.Tree.{element_tree, module_tree}
use Rattle.wasm_spec.specs.Store.{element_extent, table_size}
use Rattle.initial_image.specs.Segments.{write_elements}
use Rattle.initial_image.proofs.SegmentLemmas.{misfit_from}
use Rattle.initial_image.proofs.fill.write_elements.Given as goal

abbrev pub invariant-loop-segment : goal.invariant-loop-segment
invariant-loop-segment l = (misfit_from element_tree (element_extent (module_tree l.m)) l.m.element_segments l.segment-index ≡ None)
    × (length l.table ≡ table_size (module_tree l.m))
    × (fold (write_elements (module_tree l.m)) l.table (map element_tree (drop l.segment-index l.m.element_segments)) ≡ fold (write_elements (module_tree l.m)) l.initial.table (map element_tree l.m.element_segments))
