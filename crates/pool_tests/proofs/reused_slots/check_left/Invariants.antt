use Rattle.slot_words.specs.Passes.{IsIdle, IsSamePass}
use Rattle.pool_tests.proofs.reused_slots.check_left.Given as goal

abbrev pub invariant-loop-n : goal.invariant-loop-n
invariant-loop-n g l = IsSamePass l.fn.pass l.pass × IsIdle l.pass
