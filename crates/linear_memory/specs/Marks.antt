-- Which blocks of a memory are marked, and how many.
use Rattle.std.specs.Prelude.{◌≡◌, ℕ, zero, suc, ◌+◌, ◌-◌, ◌/◌, ◌≤◌, List, Bool, true, length, replicate, count_by}
use Rattle.memory_blocks.specs.Blocks.{KeepsUnmarked, block_size}
use Rattle.wasm_spec.specs.Store.{written}
use Rattle.linear_memory.specs.declared.memory.Memory.{Memory}

-- how many blocks so many bytes from an address on lie in
abbrev pub touched : ℕ → ℕ → ℕ
touched at zero = 0
touched at (suc n) = (at + n) / block_size + 1 - at / block_size

-- these marks, and those of the blocks that so many bytes from an address on lie in
abbrev pub with_part : List Bool → (at count : ℕ) → List Bool
with_part marks at count = written marks (at / block_size) (replicate (touched at count) true)

abbrev pub count_marks : Memory → ℕ
count_marks memory = count_by (λ b. b) memory.marks.items

-- as many bytes and marks as before
pub record HasSameRoom (old new : Memory) : Type 0 where
  pub bytes : length new.bytes.items ≡ length old.bytes.items
  pub marks : length new.marks.items ≡ length old.marks.items

-- what changes is marked, and at most so many blocks more are
pub record MarksChanges (old new : Memory) (added : ℕ) : Type 0 where
  pub unmarked : KeepsUnmarked old.bytes.items new.bytes.items old.marks.items new.marks.items
  pub counted : count_marks new ≤ count_marks old + added
  pub room : HasSameRoom old new

-- what changes is marked, and of the blocks just those are marked anew that so many bytes from an address on lie in: of no
-- byte, none
pub record MarksPart (old new : Memory) (at count : ℕ) : Type 0 where
  pub changes : MarksChanges old new (touched at count)
  pub marks : new.marks.items ≡ with_part old.marks.items at count
