-- The marks of blocks, and which block is the first that is marked.
use Rattle.std.specs.Prelude.{◌≡◌, ℕ, ◌<◌, ◌≤◌, List, Bool, true, false, Option, Some, None, MatchOption, length, set, slice_index_or}

-- for each block whether it is marked
pub record MarksView : Type 0 where
  pub items : List Bool

-- no block is marked before the first of these two, nor from the second on
pub record IsUnmarkedOutside (first end : ℕ) (marks : List Bool) : Type 0 where
  pub within : end ≤ length marks
  pub before : (k : ℕ) → k < first → slice_index_or marks k false ≡ false
  pub after : (k : ℕ) → end ≤ k → slice_index_or marks k false ≡ false

-- none of the blocks from one on and before another is marked
abbrev pub IsNoneBetween : (from end : ℕ) → List Bool → Type 0
IsNoneBetween from end marks = (k : ℕ) → from ≤ k → k < end → slice_index_or marks k false ≡ false

-- of the blocks from one on and before another this is the first that is marked
pub record IsFirstBetween (from end : ℕ) (marks : List Bool) (block : ℕ) : Type 0 where
  pub from_on : from ≤ block
  pub below : block < end
  pub marked : slice_index_or marks block false ≡ true
  pub before : IsNoneBetween from block marks

-- the first marked block, or none where no block is marked
abbrev pub IsFirstMarked : List Bool → Option ℕ → Type 0
IsFirstMarked marks first = MatchOption first (IsNoneBetween 0 (length marks) marks) (IsFirstBetween 0 (length marks) marks)

-- the blocks that were marked, and those that are marked there, and no other
pub record IsJoined (old others new : List Bool) : Type 0 where
  pub marked : (k : ℕ) → slice_index_or new k false ≡ false → (slice_index_or old k false ≡ false) × (slice_index_or others k false ≡ false)
  pub least : (k : ℕ) → slice_index_or old k false ≡ false → slice_index_or new k false ≡ true → slice_index_or others k false ≡ true
  pub room : length new ≡ length old

-- the marks without that of this block, if there is one
abbrev pub without : List Bool → Option ℕ → List Bool
without marks None = marks
without marks (Some block) = set marks block false
