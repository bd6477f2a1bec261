use Rattle.host_tests.proofs.concurrent_calls.a_call_is_made_or_finds_no_memory_beside_a_held_call.Given as goal

abbrev pub ghosts-held : goal.ghosts-held
ghosts-held g a = record { shelves = a.opened.modules; config = a.opened.config; most = a.opened.most }
