use Rattle.std.proofs.Common.{◌*◌, ℕ, Option, replicate, subst, sym, arith}
use Rattle.std.specs.Borrow.{Bor}
use Rattle.std.proofs.lemmas.List.{get_or-replicate, length-replicate}
use Rattle.sparse_bytes.specs.declared.bytes.SparseBytes.{SparseBytes}
use Rattle.sparse_bytes.specs.SparseBytes.{byte_at}
use Rattle.block_restore.specs.Images.{IsWrittenBlock, byte_of}
use Rattle.block_restore.proofs.BlockLemmas.{block_same, block_written}
use Rattle.block_restore.proofs.counted_bytes.write_image.Goals as goal

pub returns-in-Some : goal.returns-in-Some
returns-in-Some c =
    let is : IsWrittenBlock (byte_at c.in-Some.image.now) c.args.block c.args.bytes.now.items c.write_kept.new.bytes.items =
    block_same (byte_at c.in-Some.image.now) c.args.block c.args.bytes.now.items c.make_accessible.new.self.items _ c.make_accessible.ensures.items
    c.write_kept.ensures in
    subst (λ (image : Option (Bor SparseBytes)). IsWrittenBlock (byte_of image) c.args.block c.args.bytes.now.items c.write_kept.new.bytes.items) (sym c.in-Some.is) is

pub returns-in-None : goal.returns-in-None
returns-in-None c =
    let is : IsWrittenBlock (λ (i : ℕ). 0) c.args.block c.args.bytes.now.items c.fill.new.self.items =
    block_written (λ (i : ℕ). 0) c.args.block (c.args.block * 4096) c.args.bytes.now.items c.make_accessible.new.self.items _ (replicate 4096 0) (omega arith)
    (length-replicate {A = ℕ} 4096 0) c.requires.within c.make_accessible.ensures.items c.fill.ensures.items (λ i lt. get_or-replicate {A = ℕ} 4096 i 0 0 lt) in
    subst (λ (image : Option (Bor SparseBytes)). IsWrittenBlock (byte_of image) c.args.block c.args.bytes.now.items c.fill.new.self.items) (sym c.in-None.is) is
