use Rattle.std.proofs.Common.{false, ap, length, subst, ◌∙◌, Bool, List}
use Rattle.std.specs.Prelude.{replicate}
use Rattle.linear_memory.specs.Bytes.{IsMemory, IsZeroed}
use Rattle.pool_limits.specs.declared.numbers.Numbers.{Numbers}
use Rattle.pool_limits.specs.Ranges.{AreInRange}
use Rattle.memory_slots.proofs.KeptLemmas.{zeroed_cold, zeroed_in_slot}
use Rattle.memory_slots.proofs.slot.MemSlot.open.Goals as goal

pub invariant_of-result : goal.invariant_of-result
invariant_of-result g c =
    let memory = c.in_ok-memory.memory in
    let same = c.numbers-pages.ensures.same ∙ c.config.ensures.name in
    let range = subst AreInRange same c.numbers-pages.ensures.in_range in
    zeroed_in_slot g.N.Naming.config memory c.in-Ok.written.items range.pages.1
    (subst (λ (n : Numbers). IsZeroed n.pages memory) same c.in_ok-memory.ensures.zeroed)
    (subst (λ (n : Numbers). IsMemory n.pages memory) same c.in_ok-memory.ensures.memory)
    (c.in-Ok.ensures ∙ ap (λ (l : List Bool). replicate (length l) false) c.as_slice-blocks.ensures)

pub returns : goal.returns
returns g c =
    let memory = c.in_ok-memory.memory in
    let same = c.numbers-pages.ensures.same ∙ c.config.ensures.name in
    zeroed_cold g.N.Naming.config.pages memory (subst (λ (n : Numbers). IsZeroed n.pages memory) same c.in_ok-memory.ensures.zeroed)
