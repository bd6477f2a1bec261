use Rattle.host_tests.proofs.lane.a_lane_makes_a_call.Given as goal

abbrev pub ghosts-called : goal.ghosts-called
ghosts-called g a = record { shelves = a.opened.modules; config = a.opened.config; most = a.opened.most }
