use Rattle.std.proofs.Common.{◌≡◌}
use Rattle.call_jobs.proofs.waits.Waits.wait.Given as goal

abbrev pub invariant-loop : goal.invariant-loop
invariant-loop l = l.left.count ≡ l.counter
