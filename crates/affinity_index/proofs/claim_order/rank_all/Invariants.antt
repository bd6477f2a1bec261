use Rattle.std.proofs.Common.{◌≡◌, ◌≤◌, ◌&&◌, ℕ, Some, is_some, ltb, length}
use Rattle.std.specs.List.{All, count_by}
use Rattle.pool_core.specs.StateWords.{bit}
use Rattle.affinity_index.specs.Orders.{seen_rank}
use Rattle.affinity_index.specs.Rankings.{is_of}
use Rattle.affinity_index.proofs.claim_order.rank_all.Given as goal

abbrev pub invariant-loop-n : goal.invariant-loop-n
invariant-loop-n l = record {
  few : length l.ranked.items ≤ l.n;
  each : All (λ e. seen_rank l.seen l.tag l.full e.number ≡ Some e.rank) l.ranked.items;
  once : (m : ℕ) → count_by (is_of m) l.ranked.items ≡ bit (ltb m l.n && is_some (seen_rank l.seen l.tag l.full m));
}
