use Rattle.std.proofs.Common.{arith}
use Rattle.sparse_bytes.proofs.WrittenParts.{written_more}
use Rattle.sparse_bytes.proofs.bytes.SparseBytes.write.Goals as goal

pub loop-done-preserved : goal.loop-done-preserved
loop-done-preserved c = (
  omega arith,
  written_more c.args.bytes.now c.args.start c.loop-done.done c.min-count.result _ (omega arith) (omega arith) _ _ _ _ _ _ _ c.loop-done.invariant.1 c.in_ok-write_block.ensures,
)
