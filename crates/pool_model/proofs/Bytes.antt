-- What the bytes of a memory are: filled with zeros, and written anew from an image.
use Rattle.std.proofs.Common.{◌≡◌, ℕ, zero, suc, ◌+◌, ◌-◌, ◌*◌, ◌<◌, ◌≤◌, Bool, true, false, cond, List, [], ◌∷◌, length, take, refl, sym, ap, ◌∙◌, arith, length-append, inl, inr}
use Rattle.std.specs.Prelude.{replicate, slice_index}
use Rattle.std.proofs.lemmas.List.{length-replicate, length-take-le, get_or_append_left, get_or-append_right, get_or-take, ext_get_or}
use Rattle.std.proofs.lemmas.Bool.{cases_lt}
use Rattle.wasm_spec.specs.Store.{page_size}
use Rattle.wasm_spec.proofs.StoreSizes.{zeros-at}
use Rattle.memory_blocks.specs.Blocks.{is_marked}
use Rattle.pool_model.specs.Contents.{filled, rewritten_from, HasImageOutside}

pub length-filled : (pages : ℕ) (bytes : List ℕ) → length bytes ≤ pages * page_size → length (filled pages bytes) ≡ pages * page_size
length-filled pages bytes le = length-append bytes (replicate (pages * page_size - length bytes) 0) ∙ ap (λ (k : ℕ). length bytes + k) (length-replicate (pages * page_size - length bytes) 0) ∙ omega arith

pub filled-past : (pages : ℕ) (bytes : List ℕ) (i : ℕ) → length bytes ≤ i → slice_index (filled pages bytes) i ≡ 0
filled-past pages bytes i le = get_or-append_right bytes (replicate (pages * page_size - length bytes) 0) (length bytes) i 0 refl le ∙ zeros-at (pages * page_size - length bytes) (i - length bytes)

-- bytes that begin with these, and past them are zero
pub filled-is : (pages size : ℕ) (bytes memory : List ℕ) → length bytes ≡ pages * page_size → size ≤ length bytes → take size bytes ≡ memory → ((i : ℕ) → size ≤ i → slice_index bytes i ≡ 0) → bytes ≡ filled pages memory
filled-is pages size bytes memory room le is past =
    let long : length memory ≡ size = ap length (sym is) ∙ length-take-le size bytes le in
    ext_get_or 0 bytes (filled pages memory) (room ∙ sym (length-filled pages memory (omega arith))) (λ i lt. elim (cases_lt i size) [
      | inl below ↦ sym (get_or-take size bytes i 0 below) ∙ ap (λ (xs : List ℕ). slice_index xs i) is ∙ sym (get_or_append_left memory (replicate (pages * page_size - length memory) 0) 0 i (omega arith))
      | inr above ↦ past i above ∙ sym (filled-past pages memory i (omega arith))
    ])

length-rewritten : (i : ℕ) (marks : List Bool) (image bytes : List ℕ) → length (rewritten_from i marks image bytes) ≡ length bytes
length-rewritten i marks image [] = refl
length-rewritten i marks image (b ∷ bs) = ap suc (length-rewritten (i + 1) marks image bs)

rewritten-at : (i : ℕ) (marks : List Bool) (image bytes : List ℕ) → ((j : ℕ) → is_marked marks (i + j) ≡ false → slice_index bytes j ≡ slice_index image (i + j))
    → (j : ℕ) → j < length bytes → slice_index (rewritten_from i marks image bytes) j ≡ slice_index image (i + j)
rewritten-at i marks image [] h j lt = absurd (omega arith)
rewritten-at i marks image (b ∷ bs) h zero lt = let here : i + 0 ≡ i = omega arith in
    let split : (t : Bool) → is_marked marks i ≡ t → cond t (slice_index image i) b ≡ slice_index image i = elim [
      | true ↦ λ q. refl
      | false ↦ λ q. h 0 (ap (is_marked marks) here ∙ q) ∙ ap (slice_index image) here
    ] in split (is_marked marks i) refl ∙ ap (slice_index image) (sym here)
rewritten-at i marks image (b ∷ bs) h (suc j) lt = let on : (k : ℕ) → i + 1 + k ≡ i + suc k = λ k. omega arith in
    rewritten-at (i + 1) marks image bs (λ k q. h (suc k) (ap (is_marked marks) (sym (on k)) ∙ q) ∙ ap (slice_index image) (sym (on k))) j (omega arith) ∙ ap (slice_index image) (on j)

-- outside the marked blocks bytes are the image's: so to write the marked ones anew gives the image
pub rewritten-is : (marks : List Bool) (image bytes : List ℕ) → length bytes ≡ length image → HasImageOutside image bytes marks → rewritten_from 0 marks image bytes ≡ image
rewritten-is marks image bytes long outside =
    let none : (k : ℕ) → 0 + k ≡ k = λ k. omega arith in
    ext_get_or 0 (rewritten_from 0 marks image bytes) image (length-rewritten 0 marks image bytes ∙ long) (λ j lt. let l = length-rewritten 0 marks image bytes in
    rewritten-at 0 marks image bytes (λ k q. outside k (ap (is_marked marks) (sym (none k)) ∙ q) ∙ ap (slice_index image) (sym (none k))) j (omega arith) ∙ ap (slice_index image) (none j))
