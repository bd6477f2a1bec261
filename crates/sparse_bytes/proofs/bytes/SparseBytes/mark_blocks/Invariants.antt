use Rattle.std.proofs.Common.{is_some, ◌≡◌, true}
use Rattle.std.specs.Ordering.{nat_cmp}
use Rattle.std.specs.BTreeMap.{get}
use Rattle.sparse_bytes.proofs.MarkedBlocks.{IsMarkedBut}
use Rattle.sparse_bytes.proofs.bytes.SparseBytes.mark_blocks.Given as goal

-- the blocks so far that are kept whole are marked
abbrev pub invariant-loop-number : goal.invariant-loop-number
invariant-loop-number l = IsMarkedBut (λ q. is_some (get nat_cmp l.self.whole q) ≡ true) 1 l.number-iterator l.initial.marks.items l.marks.items
