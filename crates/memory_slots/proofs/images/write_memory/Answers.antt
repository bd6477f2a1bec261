use Rattle.std.proofs.Common.{◌≡◌, ◌∙◌, Bool, false, List, length, refl, sym, ap, arith}
use Rattle.std.specs.Prelude.{slice_index, slice_index_or}
use Rattle.wasm_types.specs.Tree.{ModuleTree}
use Rattle.wasm_spec.specs.Store.{minimum_of}
use Rattle.pool_limits.specs.Limits.{load_limits}
use Rattle.pool_model.specs.Contents.{memory_image}
use Rattle.pool_model.proofs.Images.{clean_is}
use Rattle.wasm_spec.proofs.WithinLemmas.{loaded-within}
use Rattle.memory_slots.specs.Kept.{contents_of}
use Rattle.memory_slots.proofs.ImageLemmas.{image_written, image_least, image_zeros}
use Rattle.memory_slots.proofs.KeptLemmas.{fresh_kept}
use Rattle.memory_slots.proofs.images.write_memory.Goals as goal

pub write_all-requires-clause-outside : goal.write_all-requires-clause-outside
write_all-requires-clause-outside g c =
    (slice_index (memory_image g.N.Naming.config.pages c.requires.0), (λ i lt free. c.requires.1.kept.outside i free), c.requires.1.zeros)

pub set_size-requires-clause-fits : goal.set_size-requires-clause-fits
set_size-requires-clause-fits g c =
    let is = c.valid.ensures.loaded in
    let within = (loaded-within is.profile is.bytes _ _ is.loads).pages in
    let least : c.least_pages-pages.result ≡ minimum_of c.args.loaded.now.module.now.tree.memories = c.least_pages-pages.ensures ∙ ap (λ (t : ModuleTree). minimum_of t.memories) c.valid.ensures.tree in
    omega (arith, within, least, c.write_all.ensures.room.0, c.requires.1.kept.room)

pub set_size-requires-clause-few : goal.set_size-requires-clause-few
set_size-requires-clause-few g c =
    let is = c.valid.ensures.loaded in
    let within = (loaded-within is.profile is.bytes _ _ is.loads).pages in
    let least : c.least_pages-pages.result ≡ minimum_of c.args.loaded.now.module.now.tree.memories = c.least_pages-pages.ensures ∙ ap (λ (t : ModuleTree). minimum_of t.memories) c.valid.ensures.tree in
    omega (arith, within, least, c.requires.1.kept.few)

pub returns-clause-fresh : goal.returns-clause-fresh
returns-clause-fresh g c =
    let config = g.N.Naming.config in
    let m = c.args.loaded.now.module.now in
    let is = c.valid.ensures.loaded in
    let set = c.set_size.ensures in
    let room = c.write_all.ensures.room.0 ∙ c.requires.1.kept.room in
    record {
      holds = refl;
      size = set.size ∙ c.least_pages-pages.ensures ∙ ap (λ (t : ModuleTree). minimum_of t.memories) c.valid.ensures.tree;
      bytes = set.bytes
          ∙ image_written (load_limits config) m.tree c.image-image.result.now (loaded-within is.profile is.bytes _ _ is.loads) c.image-image.ensures.image c.write_all.new.bytes.items room c.write_all.ensures.bytes;
      clean = λ k. ap (λ (l : List Bool). slice_index_or l k false) set.marks ∙ c.write_all.ensures.marks k;
    }

pub returns-clause-marks : goal.returns-clause-marks
returns-clause-marks g c =
    c.set_size.ensures.marks ∙ clean_is c.args.memory.now.marks.items c.write_all.new.marks.items c.write_all.ensures.room.1 c.write_all.ensures.marks

pub returns-clause-accessible : goal.returns-clause-accessible
returns-clause-accessible g c = omega (arith, c.set_size.ensures.size, c.set_size.ensures.accessible)

pub returns-clause-written : goal.returns-clause-written
returns-clause-written g c =
    let is = c.valid.ensures.loaded in
    let set = c.set_size.ensures in
    let m = c.args.loaded.now.module.now in
    let config = g.N.Naming.config in
    let loaded = loaded-within is.profile is.bytes _ _ is.loads in
    let long_bytes = ap length set.bytes in
    let long_marks = ap length set.marks ∙ c.write_all.ensures.room.1 in
    record {
      kept = fresh_kept config m (contents_of c.args.memory.now c.requires.0) _ c.requires.1.kept (returns-clause-fresh g c)
          (record { bytes = long_bytes ∙ c.write_all.ensures.room.0; marks = long_marks }) loaded.pages;
      blocks = c.write_all.ensures.blocks ∙ c.requires.1.blocks ∙ sym long_marks;
      zeros = λ i lt free. image_zeros (load_limits config) m.tree c.image-image.result.now loaded c.image-image.ensures.image (length c.write_all.new.bytes.items) c.write_all.new.written.items c.write_all.ensures.written i (omega (arith, lt, long_bytes)) free;
      least = λ k is. image_least m c.image-image.result.now c.image-image.ensures.image k (c.write_all.ensures.least k is);
    }

pub returns-clause-steps : goal.returns-clause-steps
returns-clause-steps g c = λ holds before set all.
    c.write_all.ensures.steps set all.marked
    (λ k is. all.old k (before.least k is))
    (λ k is. all.new k (image_least c.args.loaded.now.module.now c.image-image.result.now c.image-image.ensures.image k (c.write_all.ensures.least k is)))
