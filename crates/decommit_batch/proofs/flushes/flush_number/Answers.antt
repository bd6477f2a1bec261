use Rattle.std.proofs.Common.{◌≡◌, ◌∙◌, true, ap, sym}
use Rattle.pool_core.specs.declared.words.Target.{Target}
use Rattle.pool_core.specs.StateWords.{is_awaiting}
use Rattle.slot_words.specs.Owned.{limit_of}
use Rattle.decommit_batch.proofs.TriedNumbers.{flushes_tried}
use Rattle.decommit_batch.proofs.flushes.flush_number.Goals as goal

pub returns-in-Awaiting-clause-trail : goal.returns-in-Awaiting-clause-trail
returns-in-Awaiting-clause-trail g c =
    let word = c.load.ensures.word in
    let said = c.unpack-held.ensures.said word.0 word.1 in
    let awaits : is_awaiting word.0.target.state ≡ true = ap (λ (to : Target). is_awaiting to.state) (sym said.0) ∙ ap is_awaiting c.in-Awaiting.is in
    flushes_tried (limit_of c.args.words.now) c.args.n _ word.0 _ _ _ word.1 (sym said.1 ∙ c.if-held.false) awaits c.load.ensures.trail c.claim_awaiting.ensures.trail
