use Rattle.std.proofs.Common.{drop}
use Rattle.run_books.proofs.DueLemmas.{DuesLeft}
use Rattle.run_books.proofs.due_list.dues.Given as goal

abbrev pub invariant-loop-directive : goal.invariant-loop-directive
invariant-loop-directive l = DuesLeft l.fn.requests (drop l.directive-index l.fn.requests) l.number l.calls.items
