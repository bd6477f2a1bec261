use Rattle.slot_words.specs.Looking.{IsCount}
use Rattle.slot_words.specs.Parts.{Grew}
use Rattle.slot_words.specs.Passes.{IsSamePass, KeepsAll, trail}
use Rattle.slot_words.proofs.KindSums.{AreAtMost}
use Rattle.slot_words.proofs.words.Words.look.Given as goal

abbrev pub invariant-loop-n : goal.invariant-loop-n
invariant-loop-n g l = record {
  same : IsSamePass l.fn.pass l.pass;
  keeps : KeepsAll l.fn.pass l.pass;
  counted : Grew (IsCount l.n l.counts) (trail l.fn.pass) (trail l.pass);
  small : AreAtMost l.counts l.n;
}
