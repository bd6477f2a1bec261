use Rattle.std.proofs.Common.{sym, subst}
use Rattle.std.specs.Prelude.{Some}
use Rattle.pool_model.specs.Contents.{Named, MemoryContents}
use Rattle.memory_slots.specs.Kept.{IsInSlot}
use Rattle.memory_slots.specs.Written.{WritesAtMost}
use Rattle.memory_slots.proofs.slot.MemSlot.write.Goals as goal

pub invariant_of-self : goal.invariant_of-self
invariant_of-self g c =
    let new = c.write_memory.new in
    subst (λ (m : Named). IsInSlot g.N.Naming.config new.written.items new.memory (Some m)) (sym c.again.ensures)
    (record { image = c.write_memory.ensures.written; accessible = c.write_memory.ensures.accessible })

pub returns-clause-steps : goal.returns-clause-steps
returns-clause-steps g c =
    subst (λ (x : MemoryContents). WritesAtMost x (Some c.args.loaded.now.module.now) c.args.steps.now c.write_memory.new.steps) c.self.view_is
    (c.write_memory.ensures.steps c.self.inside.holds c.self.invariant.image)
