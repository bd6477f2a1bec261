use Rattle.slot_pools.proofs.wins.claim_last.Goals as goal

pub returns-in-Batched-clause-trail : goal.returns-in-Batched-clause-trail
returns-in-Batched-clause-trail g c = rw c.in-Batched.is c.claim_after_flush.ensures.trail

pub returns-in-Batched-clause-held : goal.returns-in-Batched-clause-held
returns-in-Batched-clause-held g c = rw c.in-Batched.is c.claim_after_flush.ensures.held

pub returns-in-Affine-clause-trail : goal.returns-in-Affine-clause-trail
returns-in-Affine-clause-trail g c = rw c.in-Affine.is c.claim_any.ensures.trail

pub returns-in-Affine-clause-held : goal.returns-in-Affine-clause-held
returns-in-Affine-clause-held g c = rw c.in-Affine.is c.claim_any.ensures.held

pub returns-in-Any-clause-trail : goal.returns-in-Any-clause-trail
returns-in-Any-clause-trail g c = rw c.in-Any.is c.claim_any-in-Any.ensures.trail

pub returns-in-Any-clause-held : goal.returns-in-Any-clause-held
returns-in-Any-clause-held g c = rw c.in-Any.is c.claim_any-in-Any.ensures.held
