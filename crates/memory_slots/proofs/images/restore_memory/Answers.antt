use Rattle.std.proofs.Common.{◌≡◌, ◌∙◌, Bool, false, List, length, refl, ap, arith}
use Rattle.std.specs.Prelude.{Some, slice_index_or}
use Rattle.wasm_types.specs.Tree.{ModuleTree}
use Rattle.wasm_spec.specs.Store.{minimum_of}
use Rattle.pool_limits.specs.Limits.{load_limits}
use Rattle.pool_model.proofs.Images.{clean_is}
use Rattle.wasm_spec.proofs.WithinLemmas.{loaded-within}
use Rattle.memory_slots.specs.Kept.{contents_of}
use Rattle.memory_slots.proofs.ImageLemmas.{image_kept, image_written}
use Rattle.memory_slots.proofs.KeptLemmas.{fresh_kept}
use Rattle.memory_slots.proofs.images.restore_memory.Goals as goal

pub restore_marked-requires-clause-outside : goal.restore_marked-requires-clause-outside
restore_marked-requires-clause-outside g c =
    let is = c.valid.ensures.loaded in
    image_kept (load_limits g.N.Naming.config) c.args.own.now.module.now.tree c.image-image.result.now (loaded-within is.profile is.bytes _ _ is.loads) c.image-image.ensures.image c.args.memory.now.bytes.items c.args.memory.now.marks.items c.requires.outside

pub set_size-requires-clause-fits : goal.set_size-requires-clause-fits
set_size-requires-clause-fits g c =
    let is = c.valid.ensures.loaded in
    let within = (loaded-within is.profile is.bytes _ _ is.loads).pages in
    let least : c.least_pages-pages.result ≡ minimum_of c.args.own.now.module.now.tree.memories = c.least_pages-pages.ensures ∙ ap (λ (t : ModuleTree). minimum_of t.memories) c.valid.ensures.tree in
    omega (arith, within, least, c.restore_marked.ensures.room.0, c.requires.room)

pub set_size-requires-clause-few : goal.set_size-requires-clause-few
set_size-requires-clause-few g c =
    let is = c.valid.ensures.loaded in
    let within = (loaded-within is.profile is.bytes _ _ is.loads).pages in
    let least : c.least_pages-pages.result ≡ minimum_of c.args.own.now.module.now.tree.memories = c.least_pages-pages.ensures ∙ ap (λ (t : ModuleTree). minimum_of t.memories) c.valid.ensures.tree in
    omega (arith, within, least, c.requires.few)

pub returns-clause-fresh : goal.returns-clause-fresh
returns-clause-fresh g c =
    let config = g.N.Naming.config in
    let m = c.args.own.now.module.now in
    let is = c.valid.ensures.loaded in
    let set = c.set_size.ensures in
    let room = c.restore_marked.ensures.room.0 ∙ c.requires.room in
    record {
      holds = refl;
      size = set.size ∙ c.least_pages-pages.ensures ∙ ap (λ (t : ModuleTree). minimum_of t.memories) c.valid.ensures.tree;
      bytes = set.bytes
          ∙ image_written (load_limits config) m.tree c.image-image.result.now (loaded-within is.profile is.bytes _ _ is.loads) c.image-image.ensures.image c.restore_marked.new.bytes.items room c.restore_marked.ensures.bytes;
      clean = λ k. ap (λ (l : List Bool). slice_index_or l k false) set.marks ∙ c.restore_marked.ensures.marks k;
    }

pub returns-clause-marks : goal.returns-clause-marks
returns-clause-marks g c =
    c.set_size.ensures.marks ∙ clean_is c.args.memory.now.marks.items c.restore_marked.new.marks.items c.restore_marked.ensures.room.1 c.restore_marked.ensures.marks

pub returns-clause-accessible : goal.returns-clause-accessible
returns-clause-accessible g c = omega (arith, c.set_size.ensures.size, c.set_size.ensures.accessible)

pub returns-clause-kept : goal.returns-clause-kept
returns-clause-kept g c =
    let is = c.valid.ensures.loaded in
    let set = c.set_size.ensures in
    fresh_kept g.N.Naming.config c.args.own.now.module.now (contents_of c.args.memory.now (Some c.args.own.now.module.now)) _ c.requires (returns-clause-fresh g c)
    (record {
      bytes = ap length set.bytes ∙ c.restore_marked.ensures.room.0;
      marks = ap length set.marks ∙ c.restore_marked.ensures.room.1;
    }) (loaded-within is.profile is.bytes _ _ is.loads).pages
