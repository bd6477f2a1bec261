-- Between the words of pools, which speak of single bytes, and images as lists.
use Rattle.std.proofs.Common.{◌≡◌, ℕ, ◌+◌, ◌-◌, ◌*◌, ◌<◌, ◌≤◌, Bool, false, List, ◌++◌, length, sym, ap, ◌∙◌, arith, inl, inr, length-append}
use Rattle.std.specs.Prelude.{replicate, slice_index, map}
use Rattle.std.proofs.lemmas.List.{ext_get_or, get_or_append_left, get_or_past, get_or-map, length-map, append_assoc, replicate-append-replicate, length-replicate}
use Rattle.std.proofs.lemmas.Bool.{cases_lt}
use Rattle.wasm_spec.specs.Store.{page_size}
use Rattle.memory_blocks.specs.Blocks.{is_marked}
use Rattle.pool_model.specs.Contents.{filled, IsClean, HasImageOutside}
use Rattle.pool_model.proofs.Parts.{length-filled, filled-past}

-- bytes for so many pages that are the image's, and zero past its end, are the image with zeros after it
pub from_bytes : (pages : ℕ) (image bytes : List ℕ) → length bytes ≡ pages * page_size → length image ≤ pages * page_size
    → ((i : ℕ) → i < length bytes → slice_index bytes i ≡ slice_index image i) → bytes ≡ filled pages image
from_bytes pages image bytes room fits is = ext_get_or 0 bytes (filled pages image) (room ∙ sym (length-filled pages image fits)) (λ i lt. is i lt ∙ elim (cases_lt i (length image)) [
  | inl below ↦ sym (get_or_append_left image (replicate (pages * page_size - length image) 0) 0 i below)
  | inr above ↦ get_or_past image i 0 above ∙ sym (filled-past pages image i above)
])

-- an image that is kept without its last zeros fills a memory as the whole does
pub without_zeros : (pages n : ℕ) (image : List ℕ) → length image + n ≤ pages * page_size → filled pages (image ++ replicate n 0) ≡ filled pages image
without_zeros pages n image fits =
    let long : length (image ++ replicate n 0) ≡ length image + n = length-append image (replicate n 0) ∙ ap (λ (k : ℕ). length image + k) (length-replicate n 0) in
    append_assoc image (replicate n 0) (replicate (pages * page_size - length (image ++ replicate n 0)) 0)
    ∙ ap (λ (l : List ℕ). image ++ l) (replicate-append-replicate n (pages * page_size - length (image ++ replicate n 0)) 0 ∙ ap (λ (k : ℕ). replicate k 0) (omega arith))

-- an image filled up reads as the image itself
pub filled-at : (pages : ℕ) (image : List ℕ) (i : ℕ) → slice_index (filled pages image) i ≡ slice_index image i
filled-at pages image i = elim (cases_lt i (length image)) [
  | inl below ↦ get_or_append_left image (replicate (pages * page_size - length image) 0) 0 i below
  | inr above ↦ filled-past pages image i above ∙ sym (get_or_past image i 0 above)
]

-- the bytes of unmarked blocks, said for the bytes that there are
pub outside_from : (pages : ℕ) (image bytes : List ℕ) (marks : List Bool) → length bytes ≡ pages * page_size → length image ≤ pages * page_size
    → ((i : ℕ) → i < length bytes → is_marked marks i ≡ false → slice_index bytes i ≡ slice_index image i) → HasImageOutside (filled pages image) bytes marks
outside_from pages image bytes marks room fits is i free = elim (cases_lt i (length bytes)) [
  | inl below ↦ is i below free ∙ sym (filled-at pages image i)
  | inr above ↦ get_or_past bytes i 0 above ∙ sym (get_or_past image i 0 (omega arith)) ∙ sym (filled-at pages image i)
]

-- as many marks, none set, are the marks after preparing
pub clean_is : (before after : List Bool) → length after ≡ length before → IsClean after → after ≡ map (λ (marked : Bool). false) before
clean_is before after long clean = ext_get_or false after (map (λ (marked : Bool). false) before) (long ∙ sym (length-map before (λ (marked : Bool). false)))
    (λ i lt. clean i ∙ sym (get_or-map (λ (marked : Bool). false) before i false false (omega arith)))
