use Rattle.pool_model.proofs.Shadows.{two-worlds, answers-agree}
use Rattle.pool_model.proofs.laws.two_worlds.Goals as goal

pub returns-clause-turns : goal.returns-clause-turns
returns-clause-turns c = two-worlds

pub returns-clause-answers : goal.returns-clause-answers
returns-clause-answers c = answers-agree
