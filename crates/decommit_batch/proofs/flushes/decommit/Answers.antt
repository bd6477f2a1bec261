use Rattle.std.proofs.Common.{arith, ◌≡◌, ◌∷◌, [], refl, append_assoc, false, ltb}
use Rattle.std.proofs.lemmas.Grind.{common_steps}
use Rattle.slot_words.specs.Owned.{limit_of}
use Rattle.pool_core.specs.StateWords.{packed, cold_word}
use Rattle.slot_words.specs.declared.views.Operation.TheVariants.{Release, WarmUp, WarmDown, AwaitDown}
use Rattle.decommit_batch.proofs.flushes.decommit.Goals as goal

pub returns-else-warm_up-clause-trail : goal.returns-else-warm_up-clause-trail
returns-else-warm_up-clause-trail g c =
    let a = c.await_down.ensures.trail.0 in
    let r = c.if-warm_up.ensures.trail.0 in
    let d = c.warm_down.ensures.trail.0 in
    let refused : ltb r (limit_of c.args.words.now) ≡ false = cc (c.if-warm_up.ensures.trail.1, c.if-warm_up.false) in
    record {
      done = AwaitDown a ∷ WarmUp r ∷ WarmDown d ∷ Release c.args.lease.number (packed cold_word) ∷ [];
      grown = simp (c.release-else-warm_up.ensures.trail, c.warm_down.ensures.trail.1, c.if-warm_up.ensures.trail.2, c.await_down.ensures.trail.1, append_assoc);
      is = (a, r, rw refused (d, refl));
    }

pub returns-then-warm_up-clause-trail : goal.returns-then-warm_up-clause-trail
returns-then-warm_up-clause-trail g c = grind (arith, common_steps)
