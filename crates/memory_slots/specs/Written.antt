-- Which blocks hold data of a module, and how many of a memory's blocks have to be written.
use Rattle.std.specs.Prelude.{◌≡◌, ℕ, ◌+◌, ◌≤◌, Bool, true, false, Option, Some, None, length, slice_index_or}
use Rattle.initial_image.specs.Image.{IsNeeded}
use Rattle.pool_model.specs.Contents.{Named, MemoryContents}
use Rattle.block_restore.specs.Images.{count_in}

-- a data segment of the module has bytes in the block of this number; without a module none has
abbrev pub HasDataIn : Option Named → ℕ → Type 0
HasDataIn None block = ⊥
HasDataIn (Some m) block = IsNeeded m.tree block

-- A set of blocks has all that may differ from those of the fresh memory of a module, or of none: the marked ones, those in which the
-- module that the memory belongs to has data, and those in which that one has.
pub record HasAllBlocks (set : ℕ → Bool) (x : MemoryContents) (m : Option Named) : Type 0 where
  pub marked : (k : ℕ) → slice_index_or x.marks k false ≡ true → set k ≡ true
  pub old : (k : ℕ) → HasDataIn x.holds k → set k ≡ true
  pub new : (k : ℕ) → HasDataIn m k → set k ≡ true

-- of each set that has them all, no more blocks were written than it has
abbrev pub WritesAtMost : MemoryContents → Option Named → (before after : ℕ) → Type 0
WritesAtMost x m before after = (set : ℕ → Bool) → HasAllBlocks set x m → after ≤ before + count_in set (length x.marks)
