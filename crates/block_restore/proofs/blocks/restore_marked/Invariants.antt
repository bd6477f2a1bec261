use Rattle.std.proofs.Common.{◌≡◌, ◌+◌, length}
use Rattle.block_restore.specs.Counted.{AreSame}
use Rattle.block_restore.specs.Images.{KeepsImage, byte_of}
use Rattle.memory_blocks.proofs.MarkLemmas.{count}
use Rattle.block_restore.proofs.blocks.restore_marked.Given as goal

abbrev pub invariant-loop-block : goal.invariant-loop-block
invariant-loop-block g l = record {
  references : AreSame l.initial.counted l.counted;
  room : length l.counted.bytes.now.items ≡ length l.initial.counted.bytes.now.items;
  blocks : length l.marks.items ≡ length l.initial.marks.items;
  outside : KeepsImage l.counted.bytes.now.items l.marks.items (byte_of l.image);
  steps : l.counted.steps.now + count l.marks.items ≡ l.initial.counted.steps.now + count l.initial.marks.items;
}

abbrev pub decreases-loop-block : goal.decreases-loop-block
decreases-loop-block g l = count l.marks.items
