use Rattle.slot_words.specs.Passes.{IsIdle, IsSamePass}
use Rattle.pool_tests.proofs.reused_slots.check_visits.Given as goal

abbrev pub invariant-loop-module : goal.invariant-loop-module
invariant-loop-module g l = IsSamePass l.fn.pass l.pass × IsIdle l.pass
