-- Bytes that are written into a sparse memory and over a list.
use Rattle.std.proofs.Common.{◌≡◌, ℕ, ◌+◌, ◌-◌, ◌<◌, ◌≤◌, List, ◌++◌, length, take, drop, get_or, refl, sym, ap, ◌∙◌, arith, inl, inr}
use Rattle.std.proofs.lemmas.List.{get_or-take, get_or-drop, get_or_append_left, get_or-append_right, length-take-le}
use Rattle.std.proofs.lemmas.Bool.{cases_lt}
use Rattle.wasm_spec.specs.Store.{written}
use Rattle.sparse_bytes.specs.declared.bytes.SparseBytes.{SparseBytes}
use Rattle.sparse_bytes.specs.SparseBytes.{IsWritten}
use Rattle.initial_image.specs.Image.{ShowsBytes}

module _ (at : ℕ) (items bytes : List ℕ) (fits : at + length items ≤ length bytes) where
  first : length (take at bytes) ≡ at
  first = length-take-le at bytes (omega arith)

  before : (i : ℕ) → i < at → get_or (written bytes at items) i 0 ≡ get_or bytes i 0
  before i lt = get_or_append_left (take at bytes) (items ++ drop (at + length items) bytes) 0 i (let f = first in omega arith) ∙ get_or-take at bytes i 0 lt

  from : (i : ℕ) → at ≤ i → get_or (written bytes at items) i 0 ≡ get_or (items ++ drop (at + length items) bytes) (i - at) 0
  from i le = get_or-append_right (take at bytes) (items ++ drop (at + length items) bytes) at i 0 first le

  within : (i : ℕ) → at ≤ i → i < at + length items → get_or (written bytes at items) i 0 ≡ get_or items (i - at) 0
  within i le lt = from i le ∙ get_or_append_left items (drop (at + length items) bytes) 0 (i - at) (omega arith)

  after : (i : ℕ) → at + length items ≤ i → get_or (written bytes at items) i 0 ≡ get_or bytes i 0
  after i le =
      from i (omega arith)
      ∙ get_or-append_right items (drop (at + length items) bytes) (length items) (i - at) 0 refl (omega arith)
      ∙ get_or-drop (at + length items) bytes (i - at - length items) 0
      ∙ ap (λ (n : ℕ). get_or bytes n 0) (omega arith)

  -- what shows a list shows it after the same bytes were written into both
  pub shows-written : (old new : SparseBytes) → ShowsBytes old bytes → IsWritten at items old new → ShowsBytes new (written bytes at items)
  shows-written old new shows is i = elim (cases_lt i at) [
    | inl lt ↦ is.bytes.before i lt ∙ shows i ∙ sym (before i lt)
    | inr le ↦ elim (cases_lt i (at + length items)) [
      | inl lt ↦ is.bytes.within i le lt ∙ sym (within i le lt)
      | inr past ↦ is.bytes.after i past ∙ shows i ∙ sym (after i past)
    ]
  ]
