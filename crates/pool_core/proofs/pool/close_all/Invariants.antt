use Rattle.std.proofs.Common.{◌≡◌, ◌++◌, map, take, drop}
use Rattle.pool_core.specs.EventEffects.{closed_seat}
use Rattle.pool_core.proofs.pool.close_all.Given as goal

abbrev pub invariant-loop-seat : goal.invariant-loop-seat
invariant-loop-seat l = l.seat-items ≡ map closed_seat (take l.seat-index l.fn.seats.items) ++ drop l.seat-index l.fn.seats.items
