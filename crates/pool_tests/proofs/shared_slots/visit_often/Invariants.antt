use Rattle.slot_words.specs.Passes.{IsIdle}
use Rattle.slot_words.specs.Owned.{IsPassOf}
use Rattle.pool_tests.proofs.shared_slots.visit_often.Given as goal

abbrev pub invariant-loop : goal.invariant-loop
invariant-loop l = IsPassOf l.words l.pass × IsIdle l.pass
