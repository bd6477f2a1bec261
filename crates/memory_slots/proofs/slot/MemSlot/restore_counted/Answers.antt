use Rattle.std.proofs.Common.{◌≡◌, subst}
use Rattle.pool_model.specs.declared.kinds.Kind.TheVariants as kind
use Rattle.pool_model.specs.Contents.{MemoryContents, restored}
use Rattle.memory_slots.specs.Kept.{contents_of}
use Rattle.memory_slots.proofs.KeptLemmas.{restored_is}
use Rattle.memory_slots.proofs.slot.MemSlot.restore_counted.Goals as goal

pub returns-clause-restored : goal.returns-clause-restored
returns-clause-restored g c =
    let config = g.N.Naming.config in
    let new = c.restore_memory.new.memory in
    let P : MemoryContents → Type 0 = λ x. contents_of new c.self.inside.holds ≡ restored config.pages kind.Memory x in
    subst P c.self.view_is
    (restored_is config c.in-Some.own c.self.inside.holds c.self.inside.memory new c.in-Some.is c.self.invariant.image.kept c.restore_memory.ensures.fresh c.restore_memory.ensures.kept c.restore_memory.ensures.marks)
