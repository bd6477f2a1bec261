use Rattle.std.proofs.Common.{◌≡◌, ◌≤◌, length}
use Rattle.std.specs.Prelude.{vec_capacity}
use Rattle.std.specs.List.{All}
use Rattle.pool_core.specs.declared.words.State.TheVariants.{Cold}
use Rattle.slot_pools.proofs.open_slot.cold_values.Given as goal

abbrev pub invariant-loop : goal.invariant-loop
invariant-loop g l = record {
  count : length l.values.items ≡ l.counter;
  room : l.count ≤ vec_capacity l.values;
  cold : All (g.V.Pooled.fits Cold 0) l.values.items;
}
