use Rattle.slot_tests.proofs.visits.modules_come_back_to_their_memories_which_are_not_written_again.Given as goal

abbrev pub ghosts-numbers_and_kinds : goal.ghosts-numbers_and_kinds
ghosts-numbers_and_kinds g a = record { shelves = a.opened.modules; config = a.opened.config; most = a.opened.most }
