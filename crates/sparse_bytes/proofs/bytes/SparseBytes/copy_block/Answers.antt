use Rattle.std.proofs.Common.{◌∙◌, ap, arith}
use Rattle.std.proofs.lemmas.Bool.{false_from_ne_true, false≢true}
use Rattle.sparse_bytes.specs.Cells.{cell_byte}
use Rattle.sparse_bytes.proofs.WrittenBlocks.{joined_bytes, none_is}
use Rattle.sparse_bytes.proofs.bytes.SparseBytes.copy_block.Goals as goal

pub returns-in-None-clause-bytes : goal.returns-in-None-clause-bytes
returns-in-None-clause-bytes c i lt =
    let there = c.in-None.ensures.there in
    let none = none_is _ (false_from_ne_true _ (λ t. false≢true (there.1 t))) in
    c.copy_to.ensures.bytes i (omega (arith, c.copy_to.ensures.room, c.requires.size, lt))
    ∙ ap (cell_byte c.args.self.now.cells) (omega arith)
    ∙ joined_bytes c.args.self.now c.args.number none i lt
