use Rattle.memory_slots.proofs.slot.MemSlot.restore.Given as goal

abbrev pub ghosts-restore_uncounted : goal.ghosts-restore_uncounted
ghosts-restore_uncounted g a = record { name = a.blank.name; parts = a.blank.parts }
