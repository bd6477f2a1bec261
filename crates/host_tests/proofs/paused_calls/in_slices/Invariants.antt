use Rattle.pool_host.specs.Pausing.{IsOfHost}
use Rattle.host_tests.proofs.paused_calls.in_slices.Given as goal

abbrev pub invariant-loop-slice : goal.invariant-loop-slice
invariant-loop-slice g l = IsOfHost l.host l.paused
