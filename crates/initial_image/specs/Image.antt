-- The image of a module: what a new instance holds beside its table.
use Rattle.std.specs.Prelude.{◌≡◌, ℕ, List, Some, length, slice_get, slice_index}
use Rattle.wasm_types.specs.Tree.{DataTree, ModuleTree}
use Rattle.wasm_spec.specs.Store.{fresh_store, offset_of}
use Rattle.sparse_bytes.specs.declared.bytes.SparseBytes.{SparseBytes}
use Rattle.sparse_bytes.specs.Written.{Touches}
use Rattle.sparse_bytes.specs.SparseBytes.{HasBlock, byte_at}
use Rattle.initial_image.specs.declared.image.Image.{Image}

-- these bytes, and zeros after them
abbrev pub ShowsBytes : SparseBytes → List ℕ → Type 0
ShowsBytes memory bytes = (i : ℕ) → byte_at memory i ≡ slice_index bytes i

-- a data segment of the module has bytes in the block of this number
pub record IsNeeded (m : ModuleTree) (number : ℕ) : Type 0 where
  pub place : ℕ
  pub segment : DataTree
  pub is_there : slice_get m.data_segments place ≡ Some segment
  pub touches : Touches 4096 (offset_of m segment.offset) (length segment.bytes) number

pub record IsImageOf (m : ModuleTree) (image : Image) : Type 0 where
  pub memory : ShowsBytes image.memory (fresh_store m).memory
  -- its memory has no other blocks
  pub blocks : (number : ℕ) → HasBlock image.memory number → IsNeeded m number
  pub globals : image.globals ≡ (fresh_store m).globals
  pub start : image.start ≡ m.start
