use Rattle.std.proofs.Common.{refl}
use Rattle.std.proofs.lemmas.Result.{IfOk-weaker}
use Rattle.affinity_index.specs.Unheld.{unheld}
use Rattle.std.proofs.lemmas.Result.{on_err_weaker}
use Rattle.slot_pools.proofs.claims.claim_seen.Goals as goal

pub returns-in-Batched-clause-trail : goal.returns-in-Batched-clause-trail
returns-in-Batched-clause-trail g c = rw c.in-Batched.is c.claim_in_order.ensures.trail

pub returns-in-Batched-clause-held : goal.returns-in-Batched-clause-held
returns-in-Batched-clause-held g c = rw c.in-Batched.is c.claim_in_order.ensures.held

pub returns-in-Affine-clause-trail : goal.returns-in-Affine-clause-trail
returns-in-Affine-clause-trail g c = rw c.in-Affine.is c.claim_in_order-in-Affine.ensures.trail

pub returns-in-Affine-clause-held : goal.returns-in-Affine-clause-held
returns-in-Affine-clause-held g c = rw c.in-Affine.is c.claim_in_order-in-Affine.ensures.held

pub returns-in-Any-clause-trail : goal.returns-in-Any-clause-trail
returns-in-Any-clause-trail g c = rw c.in-Any.is (IfOk-weaker c.claim_first_unheld.result _ _ (λ l won.
    record { done = won.done; grown = won.grown; is = (unheld c.args.seen.now, refl, won.is) }) c.claim_first_unheld.ensures.trail)

pub returns-in-Any-clause-held : goal.returns-in-Any-clause-held
returns-in-Any-clause-held g c = rw c.in-Any.is (on_err_weaker c.claim_first_unheld.result (λ h.
    (h.0, record { done = h.1.done; grown = h.1.grown; is = (unheld c.args.seen.now, refl, h.1.is) })) c.claim_first_unheld.ensures.held)

pub claim_first_unheld-requires-clause-seen : goal.claim_first_unheld-requires-clause-seen
claim_first_unheld-requires-clause-seen g c = c.requires.words.all_seen
