use Rattle.std.proofs.Common.{◌≡◌, None, replicate}
use Rattle.job_queue.specs.Accounts.{with_put}
use Rattle.job_queue.specs.Passes.{IsJobPass, account_of}
use Rattle.run_books.proofs.putter.put_ends.Given as goal

abbrev pub invariant-loop : goal.invariant-loop
invariant-loop g l = record {
  own : IsJobPass l.jobs l.own;
  put : account_of l.own ≡ with_put (account_of l.initial.own) (replicate l.counter (0, None));
}
