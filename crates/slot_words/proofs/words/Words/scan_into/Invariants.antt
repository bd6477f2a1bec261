use Rattle.std.proofs.Common.{◌≡◌, ◌++◌, length, take}
use Rattle.std.specs.List.{All}
use Rattle.pool_core.specs.declared.words.StateWord.{StateWord}
use Rattle.pool_core.specs.StateWords.{IsWordOf}
use Rattle.slot_words.specs.Passes.{IsSamePass, KeepsAll, trail}
use Rattle.slot_words.specs.Trails.{loads_from}
use Rattle.slot_words.proofs.words.Words.scan_into.Given as goal

abbrev pub invariant-loop-n : goal.invariant-loop-n
invariant-loop-n g l = record {
  same : IsSamePass l.fn.pass l.pass;
  keeps : KeepsAll l.fn.pass l.pass;
  len : length l.row ≡ length l.fn.row;
  loads : trail l.pass ≡ trail l.fn.pass ++ loads_from 0 (take l.n l.row);
  words : All (λ r. (w : StateWord) × IsWordOf r w) (take l.n l.row);
}
