use Rattle.pool_host.specs.Hosts.{IsHostPass}
use Rattle.host_tests.proofs.warm_slots.memories_after.Given as goal

abbrev pub invariant-loop-call : goal.invariant-loop-call
invariant-loop-call g l = IsHostPass l.host l.pass
