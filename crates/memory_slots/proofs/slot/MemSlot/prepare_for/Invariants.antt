use Rattle.memory_slots.proofs.slot.MemSlot.prepare_for.Given as goal

abbrev pub ghosts-prepare_uncounted : goal.ghosts-prepare_uncounted
ghosts-prepare_uncounted g a = record { name = a.blank.name; parts = a.blank.parts }
