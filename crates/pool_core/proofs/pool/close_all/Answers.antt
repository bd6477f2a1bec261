use Rattle.std.proofs.Common.{arith, ◌≡◌, ◌<◌, ap, ◌∙◌, length, set, get_or}
use Rattle.std.proofs.lemmas.List.{get_or_default}
use Rattle.std.proofs.lemmas.List.Edits.{map_over_more}
use Rattle.pool_core.specs.declared.seats.Seat.{Seat}
use Rattle.pool_core.specs.declared.seats.Stage.TheVariants.{Unmade}
use Rattle.pool_core.specs.PoolCore.{idle_seat}
use Rattle.pool_core.specs.EventEffects.{closed_seat}
use Rattle.pool_core.proofs.pool.close_all.Goals as goal

pub loop-seat-preserved : goal.loop-seat-preserved
loop-seat-preserved c =
    let x : Seat = get_or c.loop-seat.seat-items c.loop-seat.seat-index (idle_seat Unmade) in
    let e : length c.deref_mut-seat-items.result.now ≡ length c.args.seats.now.items = ap length c.deref_mut-seat-items.ensures.value in
    let t = c.loop-seat-test.true in let a = c.loop-seat.auto.seat-items in
    let b : c.loop-seat.seat-index < length c.args.seats.now.items = omega arith in
    ap (λ (y : Seat). set c.loop-seat.seat-items c.loop-seat.seat-index y) c.closed.ensures ∙ map_over_more closed_seat c.args.seats.now.items c.loop-seat.seat-items c.loop-seat.seat-index x b c.loop-seat.invariant (get_or_default c.loop-seat.seat-items c.loop-seat.seat-index (idle_seat Unmade) x (omega arith))
