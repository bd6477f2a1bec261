use Rattle.host_tests.proofs.paused_calls.a_call_in_slices_ends_as_at_once.Given as goal

abbrev pub ghosts-check_slices : goal.ghosts-check_slices
ghosts-check_slices g a = record { shelves = a.opened.modules; config = a.opened.config; most = a.opened.most }
