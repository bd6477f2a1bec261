use Rattle.std.proofs.Common.{◌≤◌}
use Rattle.run_books.specs.Entries.{AreKept}
use Rattle.run_books.specs.Lines.{limits_in}
use Rattle.run_books.specs.Books.{AreEntered}
use Rattle.run_books.proofs.modules.enter_round.Given as goal

abbrev pub invariant-loop-at : goal.invariant-loop-at
invariant-loop-at g l = record {
  within : l.at ≤ l.fn.span.to;
  entered : AreEntered (limits_in l.fn.requests.profile g.N.Naming.config) l.fn.requests.directives l.at l.registry.entries.items l.registry.desk;
  kept : AreKept l.initial.registry.entries.items l.registry.entries.items;
}
