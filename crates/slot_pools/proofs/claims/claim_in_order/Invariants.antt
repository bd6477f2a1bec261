use Rattle.std.proofs.Common.{◌≡◌, ◌<◌, ℕ, List, IfSome, leb, length, slice_get, take}
use Rattle.slot_words.specs.Parts.{Grew}
use Rattle.slot_words.specs.Passes.{IsIdle, IsSamePass, trail}
use Rattle.affinity_index.specs.Orders.{IsOrder}
use Rattle.slot_pools.specs.Rows.{AreLost}
use Rattle.slot_pools.proofs.claims.claim_in_order.Given as goal

abbrev pub invariant-loop : goal.invariant-loop
invariant-loop g l = record {
  same : IsSamePass l.fn.pass l.pass;
  idle : IsIdle l.pass;
  number : IfSome l.next (λ n. n < length l.seen);
  along : (order : List ℕ) → IsOrder l.seen l.tag (leb l.limit l.warm) order
      → (l.next ≡ slice_get order l.counter) × Grew (AreLost (take l.counter order)) (trail l.fn.pass) (trail l.pass);
}
