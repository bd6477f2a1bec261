use Rattle.std.proofs.Common.{take}
use Rattle.slot_words.specs.Parts.{Grew}
use Rattle.slot_words.specs.Passes.{IsIdle, IsSamePass, trail}
use Rattle.affinity_index.specs.Unheld.{unheld_from}
use Rattle.slot_pools.specs.Rows.{AreLost}
use Rattle.slot_pools.proofs.claims.claim_first_unheld.Given as goal

abbrev pub invariant-loop-n : goal.invariant-loop-n
invariant-loop-n g l = record {
  same : IsSamePass l.fn.pass l.pass;
  idle : IsIdle l.pass;
  trail : Grew (AreLost (unheld_from 0 (take l.n l.seen))) (trail l.fn.pass) (trail l.pass);
}
