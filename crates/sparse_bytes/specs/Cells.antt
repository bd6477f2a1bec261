-- Which bytes cells show.
use Rattle.std.specs.Prelude.{ℕ, ◌/◌, ◌%◌, List, [], IsSome, slice_index, unwrap_or}
use Rattle.std.specs.Ordering.{nat_cmp}
use Rattle.std.specs.BTreeMap.{get}
use Rattle.sparse_bytes.specs.Written.{Writes}
use Rattle.sparse_bytes.specs.declared.cells.Cells.{Cells}
use Rattle.sparse_bytes.specs.declared.cells.TheConstants.{CELL_SIZE}

-- the bytes of the cell of this number, or none where it was never written to
abbrev pub cell_at : Cells → ℕ → List ℕ
cell_at bytes number = unwrap_or (get nat_cmp bytes.cells number) []

-- the byte at its place in its cell, or 0 where there is no such cell
unfoldable pub cell_byte : Cells → ℕ → ℕ
cell_byte bytes i = slice_index (cell_at bytes (i / CELL_SIZE)) (i % CELL_SIZE)

-- the cell of this number was written to
abbrev pub HasCell : Cells → ℕ → Type 0
HasCell bytes number = IsSome (get nat_cmp bytes.cells number)

-- The piece lies from a place on, and no cell is there but those that were and those that it touches.
abbrev pub WritesCells : (start : ℕ) → (piece : List ℕ) → (old new : Cells) → Type 0
WritesCells start piece old new = Writes CELL_SIZE start piece (cell_byte old) (cell_byte new) (HasCell old) (HasCell new)
