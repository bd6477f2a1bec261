use Rattle.slot_tests.proofs.registrations.bytes_are_registered_or_refused.Given as goal

abbrev pub ghosts-answers : goal.ghosts-answers
ghosts-answers g a = record { shelves = a.opened.modules; config = a.opened.config; most = a.opened.most }
