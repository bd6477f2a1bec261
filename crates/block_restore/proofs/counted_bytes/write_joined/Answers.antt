use Rattle.std.proofs.Common.{◌*◌, refl, arith}
use Rattle.sparse_bytes.specs.SparseBytes.{byte_at}
use Rattle.block_restore.proofs.BlockLemmas.{block_written}
use Rattle.block_restore.proofs.counted_bytes.write_joined.Goals as goal

pub returns : goal.returns
returns c =
    block_written (byte_at c.args.image.now) c.args.block (c.args.block * 4096) c.args.bytes.now.items c.args.bytes.now.items _ c.copy_block.new.part (omega arith) c.copy_block.ensures.room c.requires.within refl
    c.put.ensures.items c.copy_block.ensures.bytes
