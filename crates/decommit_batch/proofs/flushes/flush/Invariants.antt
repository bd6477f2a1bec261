use Rattle.std.specs.List.{range_with_len}
use Rattle.slot_words.specs.Parts.{Parts, Grew}
use Rattle.slot_words.specs.Passes.{IsIdle, IsSamePass, trail}
use Rattle.slot_words.specs.Owned.{limit_of}
use Rattle.decommit_batch.specs.Flush.{IsFlushPart}
use Rattle.decommit_batch.proofs.flushes.flush.Given as goal

abbrev pub invariant-loop-n : goal.invariant-loop-n
invariant-loop-n g l = record {
  same : IsSamePass l.fn.pass l.pass;
  idle : IsIdle l.pass;
  trail : Grew (Parts (IsFlushPart (limit_of l.words)) (range_with_len 0 l.n)) (trail l.fn.pass) (trail l.pass);
}
