use Rattle.std.proofs.Common.{◌≡◌, ℕ, None, List, length, map, drop}
use Rattle.std.specs.Prelude.{fold}
use Rattle.wasm_types.specs.Tree.{data_tree, module_tree}
use Rattle.wasm_spec.specs.Store.{data_extent, fresh_store, memory_size}
use Rattle.sparse_bytes.specs.SparseBytes.{HasBlock}
use Rattle.initial_image.specs.Image.{IsNeeded, ShowsBytes}
use Rattle.initial_image.specs.Segments.{write_data}
use Rattle.initial_image.proofs.SegmentLemmas.{misfit_from}
use Rattle.initial_image.proofs.fill.write_data.Given as goal

-- it shows some bytes over which the segments that are left give the fresh memory
abbrev pub invariant-loop-segment : goal.invariant-loop-segment
invariant-loop-segment l = record {
  fit : misfit_from data_tree (data_extent (module_tree l.m)) l.m.data_segments l.segment-index ≡ None;
  bytes : List ℕ;
  long : length bytes ≡ memory_size (module_tree l.m);
  shows : ShowsBytes l.memory bytes;
  blocks : (number : ℕ) → HasBlock l.memory number → IsNeeded (module_tree l.m) number;
  left : fold (write_data (module_tree l.m)) bytes (map data_tree (drop l.segment-index l.m.data_segments)) ≡ (fresh_store (module_tree l.m)).memory;
}
