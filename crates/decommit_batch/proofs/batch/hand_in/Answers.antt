use Rattle.std.proofs.Common.{◌<◌, ◌≤◌, ◌-◌, arith}
use Rattle.slot_words.specs.Owned.{limit_of, slots_of}
use Rattle.decommit_batch.proofs.TellingLemmas.{flushes_so, waits_so}
use Rattle.decommit_batch.proofs.batch.hand_in.Goals as goal

pub returns-then-waiting-last-clause-told : goal.returns-then-waiting-last-clause-told
returns-then-waiting-last-clause-told g c =
    let less = c.if-waiting-last.true in let from = c.from-last.ensures in
    let told = waits_so c.args.batch c.await_up-waiting.result c.stamp-stamp.ensures.trail.0 c.args.lease.number _ _ _ _ _ c.await_up-waiting.ensures.trail c.stamp-stamp.ensures.trail.2 c.release.ensures.trail (omega arith) in
    omega arith

pub returns-clause-told : goal.returns-clause-told
returns-clause-told g c =
    let enough = c.if-waiting-last.false in let from = c.from-last.ensures in
    let told = flushes_so c.args.batch c.await_up-waiting.result c.stamp-stamp.ensures.trail.0 c.args.lease.number _ _ _ _ _ c.await_up-waiting.ensures.trail c.stamp-stamp.ensures.trail.2 c.release.ensures.trail (limit_of c.args.words.now) (slots_of c.args.words.now) _ (omega arith) c.flush.ensures.trail in
    omega arith
