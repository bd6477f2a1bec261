use Rattle.slot_words.specs.Passes.{IsIdle, IsSamePass}
use Rattle.slot_tests.proofs.visits.last_of.Given as goal

abbrev pub invariant-loop : goal.invariant-loop
invariant-loop g l = IsSamePass l.initial.pass l.pass × IsIdle l.pass
