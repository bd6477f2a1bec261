use Rattle.std.proofs.Common.{rules, ap, ⊎_elim}
use Rattle.pool_core.specs.StateWords.{is_awaiting}
use Rattle.slot_words.specs.Owned.{limit_of}
use Rattle.decommit_batch.proofs.TriedNumbers.{tried_awaiting, tried_other}
use Rattle.decommit_batch.proofs.flushes.claim_awaiting.Goals as goal

pub returns-in-Awaiting-clause-trail : goal.returns-in-Awaiting-clause-trail
returns-in-Awaiting-clause-trail g c =
    let won = c.in-Ok.ensures.won in
    let left = (c.unpack.ensures.said won.word (rw c.word.ensures won.is_word)).0 in
    tried_awaiting _ c.args.n _ won.word _ _ _ _ won.is_word won.free c.in-Ok.ensures.number left c.in-Ok.ensures.trail (limit_of c.args.words.now) c.in-Awaiting.is c.decommit.ensures.trail

pub returns-in-Cold : goal.returns-in-Cold
returns-in-Cold g c =
    let won = c.in-Ok.ensures.won in
    let left = (c.unpack.ensures.said won.word (rw c.word.ensures won.is_word)).0 in
    let other = ⊎_elim (λ cold. ap is_awaiting cold) (λ warm. ap is_awaiting warm) c.in-Cold.is in record {
      same = search rules;
      idle = c.release.ensures.idle;
      trail = tried_other _ c.args.n _ won.word _ _ _ _ won.is_word won.free c.in-Ok.ensures.number left c.in-Ok.ensures.trail (limit_of c.args.words.now) other c.release.ensures.trail;
    }
