use Rattle.std.proofs.Common.{inl, inr}
use Rattle.slot_words.specs.Owned.{limit_of, slots_of}
use Rattle.slot_pools.proofs.Filling.{after_lost}
use Rattle.slot_pools.proofs.ResultLemmas.{on_err}
use Rattle.slot_pools.proofs.ToldLemmas.{told_last, told_seen}
use Rattle.slot_pools.proofs.wins.win.Goals as goal

pub returns-in-Ok-clause-trail : goal.returns-in-Ok-clause-trail
returns-in-Ok-clause-trail g c =
    let won = c.in-Ok.ensures.trail in
    record { done = won.done; grown = won.grown; is = (won.is.0, won.is.1, inl won.is.2) }

pub returns-in-Ok-clause-told : goal.returns-in-Ok-clause-told
returns-in-Ok-clause-told g c = λ batch. told_seen batch c.in-Ok.lease.number c.in-Ok.lease.word _ _ _ c.in-Ok.ensures.trail

pub returns-in_err-lease-clause-held : goal.returns-in_err-lease-clause-held
returns-in_err-lease-clause-held g c = on_err c.from_residual.result (after_lost _ _ _ _ _ c.in_default.ensures.held.1 c.in_err-lease.ensures.held.1)

pub returns-clause-trail : goal.returns-clause-trail
returns-clause-trail g c =
    let all = after_lost _ _ _ _ _ c.in_default.ensures.held.1 c.in_ok-lease.ensures.trail in
    record { done = all.done; grown = all.grown; is = (all.is.0, all.is.1, inr all.is.2) }

pub returns-clause-told : goal.returns-clause-told
returns-clause-told g c = λ batch.
    let words = c.args.words.now in let l = c.in_ok-lease.lease in
    rw c.flushes_last.ensures (told_last batch c.args.policy (limit_of words) (slots_of words) l.number l.word _ _ _ _ c.in_default.ensures.held.1 c.in_ok-lease.ensures.trail)
