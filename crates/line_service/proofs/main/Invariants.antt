use Rattle.line_service.proofs.main.Given as goal

abbrev pub ghosts-on_store : goal.ghosts-on_store
ghosts-on_store g a = record { shelves = a.opened.modules; config = a.opened.config; most = a.opened.most }
