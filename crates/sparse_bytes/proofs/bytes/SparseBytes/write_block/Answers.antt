use Rattle.std.proofs.Common.{◌+◌, ◌*◌, ◌∙◌, refl, sym, Ok, Err, Result}
use Rattle.std.specs.Prelude.{OnOk}
use Rattle.sparse_bytes.specs.Cells.{WritesCells}
use Rattle.sparse_bytes.specs.SparseBytes.{IsWritten}
use Rattle.sparse_bytes.specs.declared.bytes.SparseBytes.{SparseBytes}
use Rattle.sparse_bytes.proofs.WrittenBlocks.{none_is, in_cells}
use Rattle.sparse_bytes.proofs.bytes.SparseBytes.write_block.Goals as goal

onto : {A E : Type 0} (P Q : Type 0) (r : Result A E) → (P → Q) → OnOk r P → OnOk r Q
onto P Q (Ok x) f h = f h
onto P Q (Err e) f h = tt

pub returns-then-not-contains_key : goal.returns-then-not-contains_key
returns-then-not-contains_key c =
    let old : SparseBytes = c.args.self.now in
    let new : SparseBytes = record { whole = old.whole; cells = c.write.new.self } in
    let place = 4096 * c.args.number + c.args.from in
    onto (WritesCells place c.args.piece.now old.cells new.cells) (IsWritten place c.args.piece.now old new) c.write.result
    (in_cells old new c.args.number c.args.from c.args.piece.now refl (none_is _ (sym c.contains_key.ensures ∙ c.if-not-contains_key.true)) c.requires.fits) c.write.ensures
