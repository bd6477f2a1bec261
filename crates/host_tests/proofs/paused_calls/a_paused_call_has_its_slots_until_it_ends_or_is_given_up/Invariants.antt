use Rattle.host_tests.proofs.paused_calls.a_paused_call_has_its_slots_until_it_ends_or_is_given_up.Given as goal

abbrev pub ghosts-check_slots : goal.ghosts-check_slots
ghosts-check_slots g a = record { shelves = a.opened.modules; config = a.opened.config; most = a.opened.most }
