use Rattle.std.proofs.Common.{◌≤◌}
use Rattle.call_rounds.specs.Rounds.{AreOfOneRound, IsRun}
use Rattle.call_rounds.proofs.RunLemmas.{RoundsLeft}
use Rattle.call_rounds.proofs.rounds.make_rounds.Given as goal

abbrev pub invariant-loop-at : goal.invariant-loop-at
invariant-loop-at g l = record {
  run : IsRun g.N.Naming.config l.fn.requests l.run;
  behind : l.run.done ≤ l.at;
  one_round : AreOfOneRound l.fn.requests.directives l.run.done l.at;
  rounds : RoundsLeft g.N.Naming.config l.fn.requests l.at l.initial.run l.run;
}
