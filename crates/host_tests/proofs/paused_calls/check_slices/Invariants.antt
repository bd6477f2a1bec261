use Rattle.pool_host.specs.Hosts.{IsHostPass}
use Rattle.host_tests.proofs.paused_calls.check_slices.Given as goal

abbrev pub invariant-loop-row : goal.invariant-loop-row
invariant-loop-row g l = IsHostPass l.host l.pass
