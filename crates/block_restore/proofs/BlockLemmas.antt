-- A block that is written over.
use Rattle.std.proofs.Common.{◌≡◌, ◌*◌, ◌+◌, ◌-◌, ◌<◌, ◌≤◌, ◌∙◌, ℕ, List, length, ap, inl, inr, subst, arith}
use Rattle.std.specs.Prelude.{slice_index}
use Rattle.wasm_spec.specs.Store.{written}
use Rattle.wasm_spec.proofs.StoreSizes.{length-written}
use Rattle.linear_memory.proofs.WrittenBytes.{inside_written, outside_written}
use Rattle.block_restore.specs.Images.{IsWrittenBlock}

-- a piece of a block's size that has the image's bytes is written over it
pub block_written : (image : ℕ → ℕ) (block start : ℕ) (old middle new piece : List ℕ) → start ≡ 4096 * block → length piece ≡ 4096 → 4096 * block + 4096 ≤ length old → middle ≡ old
    → new ≡ written middle start piece → ((i : ℕ) → i < 4096 → slice_index piece i ≡ image (4096 * block + i)) → IsWrittenBlock image block old new
block_written image block start old middle new piece at size fits same is has =
    let all : new ≡ written old (4096 * block) piece = is ∙ ap (λ (l : List ℕ). written l start piece) same ∙ ap (λ (n : ℕ). written old n piece) at in
    let byte = λ (i : ℕ). ap (λ (l : List ℕ). slice_index l i) all in
    record {
      image = λ i l u. byte i ∙ inside_written (4096 * block) piece old i (omega arith) l (omega arith) ∙ has (i - 4096 * block) (omega arith) ∙ ap image (omega arith);
      before = λ i l. byte i ∙ outside_written (4096 * block) piece old i (omega arith) (inl l);
      after = λ i l. byte i ∙ outside_written (4096 * block) piece old i (omega arith) (inr (omega arith));
      room = ap length all ∙ length-written old (4096 * block) piece (omega arith);
    }

-- a block is written over bytes that are equal to these
pub block_same : (image : ℕ → ℕ) (block : ℕ) (old middle new : List ℕ) → middle ≡ old → IsWrittenBlock image block middle new → IsWrittenBlock image block old new
block_same image block old middle new same is = subst (λ (l : List ℕ). IsWrittenBlock image block l new) same is
