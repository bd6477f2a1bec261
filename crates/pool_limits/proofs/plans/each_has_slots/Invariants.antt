use Rattle.std.proofs.Common.{◌≡◌, ◌+◌, drop}
use Rattle.pool_limits.specs.Plans.{first_bad}
use Rattle.pool_limits.proofs.plans.each_has_slots.Given as goal

abbrev pub invariant-loop-place : goal.invariant-loop-place
invariant-loop-place l = first_bad (l.place + 1) (drop l.place l.wants) ≡ first_bad 1 l.wants
