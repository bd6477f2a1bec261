use Rattle.host_tests.proofs.retirement.a_retired_module_is_called_no_more_and_its_memory_is_cold.Given as goal

abbrev pub ghosts-check : goal.ghosts-check
ghosts-check g a = record { shelves = a.opened.modules; config = a.opened.config; most = a.opened.most }
