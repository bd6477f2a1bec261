use Rattle.std.proofs.Common.{◌*◌, refl, arith}
use Rattle.sparse_bytes.specs.SparseBytes.{byte_at}
use Rattle.block_restore.proofs.BlockLemmas.{block_written}
use Rattle.block_restore.proofs.counted_bytes.write_kept.Goals as goal

pub returns-in-Some : goal.returns-in-Some
returns-in-Some c =
    block_written (byte_at c.args.image.now) c.args.block (c.args.block * 4096) c.args.bytes.now.items c.args.bytes.now.items _ c.in-Some.whole.now (omega arith) c.in-Some.ensures.size c.requires.within refl
    c.put.ensures.items c.in-Some.ensures.bytes
