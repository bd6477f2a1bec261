use Rattle.std.proofs.Common.{◌≡◌, ◌<◌, ◌≤◌, ℕ, false, length}
use Rattle.std.specs.Prelude.{slice_index_or}
use Rattle.memory_blocks.proofs.marks.clear_row.Given as goal

abbrev pub invariant-loop-block : goal.invariant-loop-block
invariant-loop-block l = record {
  before : (k : ℕ) → k < l.block → slice_index_or l.marks.items k false ≡ false;
  later : (k : ℕ) → l.end ≤ k → slice_index_or l.marks.items k false ≡ false;
  room : length l.marks.items ≡ length l.initial.marks.items;
}
