use Rattle.std.proofs.Common.{◌≤◌, ◌<◌}
use Rattle.std.specs.List.{range_with_len}
use Rattle.slot_words.specs.Owned.{passes_of}
use Rattle.slot_words.specs.Parts.{Grew}
use Rattle.slot_words.specs.Passes.{IsIdle, IsSamePass, share_of, trail}
use Rattle.slot_pools.specs.Rows.{AreLost}
use Rattle.slot_pools.proofs.rows.claim_any.Given as goal

abbrev pub invariant-loop-n : goal.invariant-loop-n
invariant-loop-n g l = record {
  same : IsSamePass l.fn.pass l.pass;
  idle : IsIdle l.pass;
  another : 1 ≤ l.n → share_of l.fn.pass < passes_of l.words;
  trail : Grew (AreLost (range_with_len 0 l.n)) (trail l.fn.pass) (trail l.pass);
}
