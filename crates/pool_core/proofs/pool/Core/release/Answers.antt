use Rattle.std.proofs.Common.{sym, ap, ◌∙◌, set}
use Rattle.pool_core.specs.declared.events.Event.TheVariants.{Release}
use Rattle.pool_core.specs.declared.seats.Seat.{Seat}
use Rattle.pool_core.specs.PoolCore.{PoolCore, seat_at}
use Rattle.pool_core.proofs.LawfulSteps.{release_is, lawful_after_is}
use Rattle.pool_core.proofs.pool.Core.release.Goals as goal

pub invariant_of-self : goal.invariant_of-self
invariant_of-self c =
    let s = c.args.seat in
    lawful_after_is _ _ _ (Release s c.args.slot c.args.to) c.self.invariant (sym c.self.view_is) c.requires (release_is _ s c.args.slot c.args.to c.seat_at.result _ _
    (c.seat_at.ensures ∙ ap (λ (d : PoolCore). seat_at d s) (sym c.self.view_is))
    (c.put_seat.ensures ∙ ap (λ (p : Seat). set c.self.inside.seats.items s p) c.idle-idle.ensures) c.put_word.ensures)
