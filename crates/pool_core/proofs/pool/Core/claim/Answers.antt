use Rattle.std.proofs.Common.{sym, ap, ◌∙◌, set}
use Rattle.pool_core.specs.declared.events.Event.TheVariants.{Claim}
use Rattle.pool_core.specs.declared.seats.Seat.{Seat}
use Rattle.pool_core.specs.PoolCore.{PoolCore, seat_at, word_at}
use Rattle.pool_core.proofs.LawfulSteps.{claim_is, lawful_after_is}
use Rattle.pool_core.proofs.pool.Core.claim.Goals as goal

pub invariant_of-self : goal.invariant_of-self
invariant_of-self c =
    let s = c.args.seat in let n = c.args.slot in
    lawful_after_is _ _ _ (Claim s n) c.self.invariant (sym c.self.view_is) c.requires (claim_is _ s n c.seat_at.result c.word_at-word.result _ _
    (c.seat_at.ensures ∙ ap (λ (d : PoolCore). seat_at d s) (sym c.self.view_is)) (c.word_at-word.ensures.is ∙ ap (λ (d : PoolCore). word_at d n) (sym c.self.view_is)) c.if-word.false
    (c.put_seat.ensures ∙ ap (λ (p : Seat). set c.self.inside.seats.items s p) c.winning-winner.ensures) c.put_word.ensures)
