use Rattle.std.proofs.Common.{◌∙◌, List, ℕ, sym, ap}
use Rattle.std.specs.Prelude.{slice_index}
use Rattle.std.specs.Option.{option_copied}
use Rattle.sparse_bytes.proofs.WrittenBlocks.{whole_bytes}
use Rattle.sparse_bytes.proofs.bytes.SparseBytes.whole_block.Goals as goal

pub returns-clause-bytes : goal.returns-clause-bytes
returns-clause-bytes c i lt =
    ap (λ (l : List ℕ). slice_index l i) c.deref.ensures
    ∙ whole_bytes c.args.self.now c.args.number c.in_ok-block.block.now (sym c.get.ensures.value ∙ ap option_copied c.in_ok-block.was) i lt
