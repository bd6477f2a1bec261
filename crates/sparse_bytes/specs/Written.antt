-- Bytes that were written over others, as functions of places.
use Rattle.std.specs.Prelude.{◌≡◌, ℕ, ◌+◌, ◌-◌, ◌/◌, ◌<◌, ◌≤◌, ◌⊎◌, List, length, slice_index}

-- the piece lies from a place on, and every other byte is as it was
pub record IsOver (start : ℕ) (piece : List ℕ) (old new : ℕ → ℕ) : Type 0 where
  pub within : (i : ℕ) → start ≤ i → i < start + length piece → new i ≡ slice_index piece (i - start)
  pub before : (i : ℕ) → i < start → new i ≡ old i
  pub after : (i : ℕ) → start + length piece ≤ i → new i ≡ old i

-- of so many bytes from a place on, one lies in the part of this number, where parts have this size
pub record Touches (size start count number : ℕ) : Type 0 where
  pub place : ℕ
  pub from : start ≤ place
  pub below : place < start + count
  pub in_part : place / size ≡ number

-- The piece lies from a place on. A part of this size is there afterwards only if it was before or the piece touches it.
pub record Writes (size start : ℕ) (piece : List ℕ) (old new : ℕ → ℕ) (HadPart HasPart : ℕ → Type 0) : Type 0 where
  pub bytes : IsOver start piece old new
  pub parts : (number : ℕ) → HasPart number → HadPart number ⊎ Touches size start (length piece) number
