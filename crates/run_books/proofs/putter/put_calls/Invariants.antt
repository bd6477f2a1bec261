use Rattle.std.proofs.Common.{◌≤◌}
use Rattle.job_queue.specs.Passes.{IsJobPass, account_of}
use Rattle.run_books.specs.Entries.{AreKept}
use Rattle.run_books.specs.Lines.{limits_in}
use Rattle.run_books.specs.Books.{AreEntered}
use Rattle.run_books.proofs.PutLemmas.{PutsLeft}
use Rattle.run_books.proofs.putter.put_calls.Given as goal

abbrev pub invariant-loop-at : goal.invariant-loop-at
invariant-loop-at g l = record {
  within : l.at ≤ l.fn.span.to;
  own : IsJobPass l.jobs l.own;
  entered : AreEntered (limits_in l.fn.requests.profile g.N.Naming.config) l.fn.requests.directives l.at l.registry.entries.items l.registry.desk;
  kept : AreKept l.initial.registry.entries.items l.registry.entries.items;
  left : PutsLeft l.fn.requests.directives l.fn.span l.at l.registry.entries.items l.number (account_of l.initial.own) (account_of l.own);
}
