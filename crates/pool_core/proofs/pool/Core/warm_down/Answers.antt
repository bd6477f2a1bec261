use Rattle.std.proofs.Common.{sym, ap, ◌∙◌, false}
use Rattle.pool_core.specs.declared.events.Event.TheVariants.{WarmDown}
use Rattle.pool_core.specs.declared.seats.Seat.{Seat}
use Rattle.pool_core.specs.PoolCore.{PoolCore, seat_at}
use Rattle.pool_core.proofs.LawfulSteps.{lawful_after_is, seat_change_is}
use Rattle.pool_core.proofs.pool.Core.warm_down.Goals as goal

pub invariant_of-self : goal.invariant_of-self
invariant_of-self c = lawful_after_is _ _ _ (WarmDown c.args.seat) c.self.invariant (sym c.self.view_is) c.requires
    (seat_change_is _ c.args.seat c.seat_at.result (λ (p : Seat). record p { permit = false; refusal = false }) _ (c.seat_at.ensures ∙ ap (λ (d : PoolCore). seat_at d c.args.seat) (sym c.self.view_is)) c.put_seat.ensures)
