use Rattle.std.proofs.Common.{◌≡◌, ◌+◌, ◌<◌, ◌≤◌, ℕ, List, length, get_or, ⊎_elim, refl, sym, ap, ◌∙◌, arith}
use Rattle.std.specs.Prelude.{Some, map, option_map, replicate, slice_get}
use Rattle.std.proofs.lemmas.Option.{slice_get-map, slice_get_read}
use Rattle.sparse_bytes.specs.SparseBytes.{IsWritten}
use Rattle.std.proofs.lemmas.List.{length-replicate}
use Rattle.wasm_types.specs.declared.module.DataSegment.{DataSegment}
use Rattle.wasm_types.specs.Tree.{DataTree, ModuleTree, data_tree, module_tree}
use Rattle.wasm_spec.specs.Store.{data_extent, memory_size, offset_of, written}
use Rattle.wasm_spec.proofs.StoreSizes.{length-written}
use Rattle.initial_image.specs.Segments.{write_data}
use Rattle.initial_image.proofs.MemoryLemmas.{shows-written}
use Rattle.wasm_spec.proofs.StoreSizes.{zeros-at}
use Rattle.initial_image.proofs.SegmentLemmas.{misfit_from-none, fold-next}
use Rattle.initial_image.proofs.fill.write_data.Goals as goal

pub loop-segment-init : goal.loop-segment-init
loop-segment-init c = let size : ℕ = memory_size (module_tree c.args.m.now) in record {
  fit = c.requires.fit;
  bytes = replicate size 0;
  long = length-replicate size 0;
  shows = λ i. c.requires.zeros i ∙ sym (zeros-at size i);
  blocks = λ number has. absurd (c.requires.blocks number has);
  left = refl;
}

pub loop-segment-preserved : goal.loop-segment-preserved
loop-segment-preserved c =
    let m : ModuleTree = module_tree c.args.m.now in
    let segments : List DataSegment = c.args.m.now.data_segments in
    let i : ℕ = c.loop-segment.segment-index in
    let s : DataSegment = c.segment-item.result in
    let inv = c.loop-segment.invariant in
    let are = c.as_slice-segment-items.ensures in
    let lt : i < length segments = omega (arith, ap length are, c.loop-segment-test.true) in
    let is : s ≡ get_or segments i s = c.segment-item.is ∙ ap (λ (l : List DataSegment). get_or l i s) are in
    let next = misfit_from-none data_tree (data_extent m) segments i s lt is inv.fit in
    let tree : DataTree = data_tree s in
    let at : ℕ = offset_of m tree.offset in
    let fits : at + length tree.bytes ≤ length inv.bytes = omega (arith, next.0, inv.long) in
    let here : slice_get (map data_tree segments) i ≡ Some tree =
    slice_get-map data_tree segments i ∙ ap (option_map data_tree) (slice_get_read segments (length segments) i s refl lt is) in
    let written_there : IsWritten at tree.bytes c.loop-segment.memory c.write.new.self = rw (← c.offset_of-start.ensures, ← c.as_slice.ensures) c.in_ok-write.ensures in
    record {
      fit = next.1;
      bytes = written inv.bytes at tree.bytes;
      long = length-written inv.bytes at tree.bytes fits ∙ inv.long;
      shows = shows-written at tree.bytes inv.bytes fits c.loop-segment.memory c.write.new.self inv.shows written_there;
      blocks = λ number has. ⊎_elim (inv.blocks number) (λ touches. record { place = i; segment = tree; is_there = here; touches = touches }) (written_there.parts number has);
      left = fold-next data_tree (write_data m) segments i s lt is inv.bytes ∙ inv.left;
    }
