-- Which bytes a sparse image shows.
use Rattle.std.specs.Global.{Global}
use Rattle.std.specs.Prelude.{◌≡◌, ℕ, ◌/◌, ◌%◌, ◌⊎◌, List, Box, Option, None, Some, IsSome, slice_index}
use Rattle.std.specs.Ordering.{nat_cmp}
use Rattle.std.specs.BTreeMap.{get}
use Rattle.sparse_bytes.specs.Written.{Writes}
use Rattle.sparse_bytes.specs.Cells.{HasCell, cell_byte}
use Rattle.sparse_bytes.specs.declared.bytes.SparseBytes.{SparseBytes}
use Rattle.sparse_bytes.specs.declared.bytes.TheConstants.{BLOCK_SIZE}
use Rattle.sparse_bytes.specs.declared.cells.Cells.{Cells}

-- the byte at i: that of its block, where this is kept whole, and else that of its cell
abbrev pub shown_byte : Option (Box (List ℕ) Global) → Cells → ℕ → ℕ
shown_byte (Some block) cells i = slice_index block.value (i % BLOCK_SIZE)
shown_byte None cells i = cell_byte cells i

-- the byte at i, or 0 where nothing was written; crates above read it as a function of places
unfoldable pub byte_at : SparseBytes → ℕ → ℕ
byte_at bytes i = shown_byte (get nat_cmp bytes.whole (i / BLOCK_SIZE)) bytes.cells i

-- the block of this number was written to
abbrev pub HasBlock : SparseBytes → ℕ → Type 0
HasBlock bytes number = IsSome (get nat_cmp bytes.whole number) ⊎ ((cell : ℕ) × HasCell bytes.cells cell × (cell / 64 ≡ number))

-- The piece lies from a place on. A block was written to only if it was before or the piece touches it.
abbrev pub IsWritten : (start : ℕ) → (piece : List ℕ) → (old new : SparseBytes) → Type 0
IsWritten start piece old new = Writes BLOCK_SIZE start piece (byte_at old) (byte_at new) (HasBlock old) (HasBlock new)
