use Rattle.std.proofs.Common.{take}
use Rattle.slot_words.specs.Owned.{slots_of, limit_of}
use Rattle.decommit_batch.specs.Settle.{IsSettled}
use Rattle.slot_pools.specs.LookWins.{LosesBy, WinsBy}
use Rattle.slot_pools.proofs.Filling.{full_by_reading, won_by_reading}
use Rattle.slot_pools.proofs.ToldLemmas.{told_settled}
use Rattle.slot_pools.proofs.takes.take_by_row.Goals as goal

pub returns-in_err-won-clause-full : goal.returns-in_err-won-clause-full
returns-in_err-won-clause-full g c =
    let words = c.args.words.now in let look = c.read-warm in let lost = c.in_err-won.ensures in
    full_by_reading c.args.policy (limit_of words) (slots_of words) look.result (take (slots_of words) look.new.row) _ _ look.ensures.words look.ensures.trail
    (LosesBy words c.args.policy) _ c.from_residual.result lost.idle (rw c.slots.ensures.is at lost.held)

pub returns-clause-trail : goal.returns-clause-trail
returns-clause-trail g c =
    let words = c.args.words.now in let look = c.read-warm in let l = c.in_ok-won.won.lease in
    won_by_reading c.args.policy (limit_of words) (slots_of words) look.result (take (slots_of words) look.new.row) _ _ look.ensures.words look.ensures.trail
    (WinsBy words c.args.policy l) (IsSettled l.word) _ _ (rw c.slots.ensures.is at c.in_ok-won.ensures.trail) c.settle.ensures.trail

pub returns-clause-told : goal.returns-clause-told
returns-clause-told g c = λ batch.
    let words = c.args.words.now in let look = c.read-warm in let won = c.in_ok-won.won in
    told_settled batch c.args.policy look.result won.lease.word (take (slots_of words) look.new.row) won.flushed _ _ _ _ look.ensures.trail (c.in_ok-won.ensures.told batch) c.settle.ensures.trail
