use Rattle.std.proofs.Common.{◌≡◌, take}
use Rattle.pool_core.specs.PoolCore.{opening_core}
use Rattle.pool_core.specs.Runs.{core_after_all, AllAllowed}
use Rattle.pool_core.proofs.replays.replay.Given as goal

abbrev pub invariant-loop-at : goal.invariant-loop-at
invariant-loop-at l = let first = opening_core l.slots l.warm l.seats in record {
  allowed : AllAllowed first (take l.at l.events);
  is : l.core ≡ core_after_all first (take l.at l.events);
}
