use Rattle.std.proofs.Common.{◌≡◌, ◌+◌, ◌*◌, ◌<◌, ◌∙◌, ℕ, List, refl, sym, arith}
use Rattle.std.specs.Global.{Global}
use Rattle.std.specs.Prelude.{Box, slice_index}
use Rattle.std.proofs.lemmas.Grind.{common_steps}
use Rattle.sparse_bytes.specs.Cells.{cell_byte}
use Rattle.sparse_bytes.specs.SparseBytes.{byte_at}
use Rattle.sparse_bytes.proofs.WrittenBlocks.{if_ok, joined_bytes, whole_bytes}
use Rattle.sparse_bytes.proofs.bytes.SparseBytes.take_block.Goals as goal

pub returns-in-Some : goal.returns-in-Some
returns-in-Some c = record {
  bytes = whole_bytes c.args.self.now c.args.number c.in-Some.block (sym c.remove.ensures.value ∙ c.in-Some.is);
  others = λ q ne. c.remove.ensures.updates.2 q (grind (arith, common_steps));
  cells = refl;
}

pub returns-in-None : goal.returns-in-None
returns-in-None c = record {
  bytes = if_ok (λ (block : Box (List ℕ) Global). (i : ℕ) → i < 4096 → slice_index block.value i ≡ cell_byte c.args.self.now.cells (4096 * c.args.number + i))
      (λ (block : Box (List ℕ) Global). (i : ℕ) → i < 4096 → slice_index block.value i ≡ byte_at c.args.self.now (4096 * c.args.number + i)) c.joined.result
      (λ block has i lt. has i lt ∙ joined_bytes c.args.self.now c.args.number (sym c.remove.ensures.value ∙ c.in-None.is) i lt) c.joined.ensures;
  others = λ q ne. c.remove.ensures.updates.2 q (grind (arith, common_steps));
  cells = refl;
}
