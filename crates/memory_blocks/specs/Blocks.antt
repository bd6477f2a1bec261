-- The blocks of a memory, of which each has a mark, and what stays outside those that are marked.
use Rattle.std.specs.Prelude.{◌≡◌, ℕ, ◌/◌, List, Bool, false, slice_index, slice_index_or}

abbrev pub block_size : ℕ
block_size = 4096

-- whether the byte at i lies in a marked block
abbrev pub is_marked : List Bool → ℕ → Bool
is_marked marks i = slice_index_or marks (i / block_size) false

-- Each byte outside the blocks that are marked afterwards is as it was (zero past the end of a list), and was in no marked
-- block before.
pub record KeepsUnmarked (old new : List ℕ) (before after : List Bool) : Type 0 where
  pub bytes : (i : ℕ) → is_marked after i ≡ false → slice_index new i ≡ slice_index old i
  pub marks : (i : ℕ) → is_marked after i ≡ false → is_marked before i ≡ false
