use Rattle.std.proofs.Common.{◌∙◌, [], refl, sym, subst, arith}
use Rattle.std.specs.Prelude.{None, slice_index}
use Rattle.pool_model.specs.Contents.{MemoryContents, memory_image}
use Rattle.pool_model.proofs.Images.{from_bytes}
use Rattle.pool_model.proofs.Parts.{filled-past}
use Rattle.memory_slots.specs.Kept.{contents_of}
use Rattle.memory_slots.specs.Written.{WritesAtMost}
use Rattle.memory_slots.proofs.KeptLemmas.{whole_kept}
use Rattle.memory_slots.proofs.slot.MemSlot.clear_counted.Goals as goal

pub write_all-requires-clause-outside : goal.write_all-requires-clause-outside
write_all-requires-clause-outside g c =
    (slice_index (memory_image g.N.Naming.config.pages c.self.inside.holds), (λ i lt free. c.self.invariant.image.kept.outside i free), c.self.invariant.image.zeros)

pub returns-clause-cold : goal.returns-clause-cold
returns-clause-cold g c =
    let config = g.N.Naming.config in
    let room = c.write_all.ensures.room.0 ∙ c.self.invariant.image.kept.room in
    record {
      holds = refl;
      size = refl;
      bytes = from_bytes config.pages [] c.write_all.new.bytes.items room (omega arith) c.write_all.ensures.bytes;
      clean = c.write_all.ensures.marks;
    }

pub invariant_of-self : goal.invariant_of-self
invariant_of-self g c =
    let config = g.N.Naming.config in
    let long_marks = c.write_all.ensures.room.1 in
    record {
      image = record {
        kept = whole_kept config (contents_of c.self.inside.memory c.self.inside.holds) _ c.self.invariant.image.kept
            (record { bytes = c.write_all.ensures.room.0; marks = long_marks }) (omega arith) (returns-clause-cold g c).bytes;
        blocks = c.write_all.ensures.blocks ∙ c.self.invariant.image.blocks ∙ sym long_marks;
        zeros = λ i lt free. filled-past config.pages [] i (omega arith);
        least = c.write_all.ensures.least;
      };
      accessible = omega arith;
    }

pub returns-clause-steps : goal.returns-clause-steps
returns-clause-steps g c =
    let P : MemoryContents → Type 0 = λ x. WritesAtMost x None c.args.steps.now c.write_all.new.steps in
    subst P c.self.view_is (λ set all.
    c.write_all.ensures.steps set all.marked
    (λ k is. all.old k (c.self.invariant.image.least k is))
    (λ k is. absurd (c.write_all.ensures.least k is)))
