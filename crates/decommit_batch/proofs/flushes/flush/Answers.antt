use Rattle.std.proofs.Common.{rules}
use Rattle.slot_words.proofs.Parts.{one_number_more}
use Rattle.slot_words.specs.Owned.{limit_of}
use Rattle.decommit_batch.specs.Flush.{IsFlushPart}
use Rattle.decommit_batch.proofs.flushes.flush.Goals as goal

pub loop-n-preserved : goal.loop-n-preserved
loop-n-preserved g c = record {
  same = search rules;
  idle = c.flush_number.ensures.idle;
  trail = one_number_more (IsFlushPart (limit_of c.args.words.now)) c.loop-n.n _ _ _ c.loop-n.invariant.trail c.flush_number.ensures.trail;
}
