use Rattle.std.proofs.Common.{◌≡◌, ◌≤◌, List, length, take}
use Rattle.std.specs.Slots.{slots_items}
use Rattle.pool_core.specs.declared.words.StateWord.{StateWord}
use Rattle.slot_words.specs.KindCounts.{kind_counts, BeginsWith}
use Rattle.slot_words.proofs.kinds.count_kinds.Given as goal

abbrev pub invariant-loop-i : goal.invariant-loop-i
invariant-loop-i g l = record {
  counts : (ws : List StateWord) → length ws ≡ l.slots → BeginsWith (slots_items l.closed.words) ws → l.counts ≡ kind_counts (take l.i ws);
  small : (l.counts.cold ≤ l.i) × (l.counts.warm ≤ l.i) × (l.counts.awaiting ≤ l.i) × (l.counts.held ≤ l.i);
}
