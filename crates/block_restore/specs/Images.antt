-- Bytes that were written from an image.
use Rattle.std.specs.Prelude.{◌≡◌, ℕ, ◌+◌, ◌*◌, ◌<◌, ◌≤◌, Bool, true, false, List, Option, Some, None, count_by, length, slice_index, slice_index_or}
use Rattle.std.specs.Borrow.{Bor}
use Rattle.std.specs.List.{range_with_len}
use Rattle.sparse_bytes.specs.declared.bytes.SparseBytes.{SparseBytes}
use Rattle.sparse_bytes.specs.SparseBytes as sparse
use Rattle.sparse_bytes.specs.SparseBytes.{byte_at}
use Rattle.memory_blocks.specs.Blocks.{is_marked}

-- the byte of an image at a place; without an image all are zero
abbrev pub byte_of : Option (Bor SparseBytes) → ℕ → ℕ
byte_of None i = 0
byte_of (Some image) i = byte_at image.now i

-- the bytes are the image's
abbrev pub HasImage : List ℕ → (ℕ → ℕ) → Type 0
HasImage bytes image = (i : ℕ) → i < length bytes → slice_index bytes i ≡ image i

-- each byte of a block that is not marked is the image's
abbrev pub KeepsImage : List ℕ → List Bool → (ℕ → ℕ) → Type 0
KeepsImage bytes marks image = (i : ℕ) → i < length bytes → is_marked marks i ≡ false → slice_index bytes i ≡ image i

-- the first so many bytes of the image are zero outside the marked blocks
abbrev pub IsZeroOutside : ℕ → List Bool → (ℕ → ℕ) → Type 0
IsZeroOutside room marks image = (i : ℕ) → i < room → is_marked marks i ≡ false → image i ≡ 0

-- The block of this number has the image's bytes, and every other byte is as it was.
pub record IsWrittenBlock (from : ℕ → ℕ) (block : ℕ) (old new : List ℕ) : Type 0 where
  pub image : (i : ℕ) → 4096 * block ≤ i → i < 4096 * block + 4096 → slice_index new i ≡ from i
  pub before : (i : ℕ) → i < 4096 * block → slice_index new i ≡ slice_index old i
  pub after : (i : ℕ) → 4096 * block + 4096 ≤ i → slice_index new i ≡ slice_index old i
  pub room : length new ≡ length old

-- the image was written to in the block of this number
abbrev pub HasBlockOf : Option (Bor SparseBytes) → ℕ → Type 0
HasBlockOf None block = ⊥
HasBlockOf (Some image) block = sparse.HasBlock image.now block

-- a set of blocks has all that are marked
abbrev pub HasMarked : (ℕ → Bool) → List Bool → Type 0
HasMarked set marks = (k : ℕ) → slice_index_or marks k false ≡ true → set k ≡ true

-- how many of the first so many blocks a set has
abbrev pub count_in : (ℕ → Bool) → ℕ → ℕ
count_in set blocks = count_by set (range_with_len 0 blocks)
