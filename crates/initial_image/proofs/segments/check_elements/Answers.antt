use Rattle.std.proofs.Common.{◌≡◌, ◌<◌, ◌≤◌, List, get_or, length, ap, ◌∙◌, arith}
use Rattle.wasm_types.specs.declared.module.ElementSegment.{ElementSegment}
use Rattle.wasm_types.specs.declared.types.Limits.{Limits}
use Rattle.wasm_types.specs.Tree.{element_tree, module_tree}
use Rattle.wasm_spec.specs.Store.{element_extent, minimum_of}
use Rattle.initial_image.proofs.SegmentLemmas.{misfit_from-within}
use Rattle.initial_image.proofs.segments.check_elements.Goals as goal

pub loop-place-preserved : goal.loop-place-preserved
loop-place-preserved c =
    let m = c.args.m.now in
    let extent = element_extent (module_tree m) in
    let i = c.loop-place.place in
    let s = c.segment-item.result in
    let segments = c.as_slice-segment-items.ensures in
    let within : i < length m.element_segments = omega (arith, c.loop-place-test.true, ap length segments) in
    let here : s ≡ get_or m.element_segments i s = c.segment-item.is ∙ ap (λ (l : List ElementSegment). get_or l i s) segments in
    let size = c.minimum-size.ensures ∙ ap (λ (l : List Limits). minimum_of l) c.as_slice.ensures in
    let fits = c.in_ok-checked_end.ensures.fits in
    let le : (extent (i, element_tree s)).end ≤ (extent (i, element_tree s)).size = omega (arith, fits.0, fits.1, size, c.offset_of-offset.ensures, c.len-length.ensures) in
    misfit_from-within element_tree extent m.element_segments i s within here le ∙ c.loop-place.invariant
