use Rattle.std.proofs.Common.{◌≡◌, ◌*◌, ◌^◌, ◌≤◌, take}
use Rattle.pool_limits.specs.Plans.{wanted}
use Rattle.pool_limits.proofs.plans.wanted.Given as goal

abbrev pub invariant-loop-want : goal.invariant-loop-want
invariant-loop-want l = record {
  sum : l.sum ≡ wanted l.part (take l.want-index l.wants);
  most : l.sum ≤ l.want-index * 2 ^ 32;
}
