use Rattle.host_tests.proofs.marked_blocks.a_call_marks_the_blocks_that_it_writes_until_a_flush.Given as goal

abbrev pub ghosts-first_wrong_of : goal.ghosts-first_wrong_of
ghosts-first_wrong_of g a = record { shelves = a.opened.modules; config = a.opened.config; most = a.opened.most }
