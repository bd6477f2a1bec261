use Rattle.host_tests.proofs.warm_slots.memories_are_warm_up_to_the_limit_and_await_up_to_a_batch.Given as goal

abbrev pub ghosts-memories_after : goal.ghosts-memories_after
ghosts-memories_after g a = record { shelves = a.opened.modules; config = a.opened.config; most = a.opened.most }
