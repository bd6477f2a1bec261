use Rattle.std.proofs.Common.{◌+◌, ◌-◌, ◌∙◌, List, ℕ, length, ap, arith}
use Rattle.std.proofs.lemmas.Grind.{common_steps}
use borrow.Rule.Slice.PartMut.{put_mid}
use Rattle.sparse_bytes.specs.declared.bytes.SparseBytes.{SparseBytes}
use Rattle.sparse_bytes.proofs.WrittenBlocks.{written_whole}
use Rattle.sparse_bytes.proofs.bytes.SparseBytes.write_whole.Goals as goal

pub returns-in-Ok : goal.returns-in-Ok
returns-in-Ok c =
    let from : ℕ = c.args.from in
    let piece : List ℕ = c.args.piece.now in
    let k : ℕ = from + length piece - from in
    let block : List ℕ = c.in_ok-block.block.value in
    let new : SparseBytes = record { whole = c.insert.new.self; cells = c.take_block.new.self.cells } in
    written_whole c.args.self.now new c.args.number from k block piece _ (record {
      is = c.in-Ok.ensures.updates.1;
      value = ap (λ (p : List ℕ). put_mid from k c.deref_mut.result.now p) c.copy_from_slice.ensures.after ∙ ap (λ (b : List ℕ). put_mid from k b piece) c.deref_mut.ensures.value;
      others = λ q ne. c.in-Ok.ensures.updates.2 q (grind (arith, common_steps)) ∙ c.take_block.ensures.others q ne;
      cells = c.take_block.ensures.cells;
      size = omega arith;
      some = omega arith;
      fits = omega arith;
      long = omega (arith, ap length c.deref_mut.ensures.value);
      shows = c.in_ok-block.ensures.bytes;
    })
