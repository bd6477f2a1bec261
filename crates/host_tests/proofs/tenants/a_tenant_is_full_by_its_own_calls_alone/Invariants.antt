use Rattle.host_tests.proofs.tenants.a_tenant_is_full_by_its_own_calls_alone.Given as goal

abbrev pub ghosts-held : goal.ghosts-held
ghosts-held g a = record { shelves = a.opened.modules; config = a.opened.config; most = a.opened.most }
