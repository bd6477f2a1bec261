use Rattle.memory_slots.proofs.slot.MemSlot.clear.Given as goal

abbrev pub ghosts-clear_uncounted : goal.ghosts-clear_uncounted
ghosts-clear_uncounted g a = record { name = a.blank.name; parts = a.blank.parts }
