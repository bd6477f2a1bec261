-- What the bytes of a memory stand for.
use Rattle.std.specs.Prelude.{◌≡◌, ℕ, ◌+◌, ◌-◌, ◌*◌, ◌/◌, ◌<◌, ◌≤◌, List, ◌++◌, false, Option, Some, None, length, take, drop, replicate}
use Rattle.wasm_spec.specs.Store.{page_size}
use Rattle.linear_memory.specs.declared.memory.Memory.{Memory}
use Rattle.memory_blocks.specs.Blocks.{block_size}

-- the size in bytes
abbrev pub size_of : Memory → ℕ
size_of memory = memory.pages * page_size

-- the bytes up to its size
abbrev pub shown : Memory → List ℕ
shown memory = take (size_of memory) memory.bytes.items

-- A memory with bytes for so many pages and a mark for each block of these, which has at most so many pages now. All bytes
-- past its size are zero, and those up to it are accessible.
pub record IsMemory (most : ℕ) (memory : Memory) : Type 0 where
  pub bytes : most * page_size ≤ length memory.bytes.items
  pub marks : most * page_size ≤ length memory.marks.items * block_size
  pub size : memory.pages ≤ most
  pub zeros : drop (size_of memory) memory.bytes.items ≡ replicate (length memory.bytes.items - size_of memory) 0
  pub accessible : size_of memory ≤ memory.bytes.accessible

-- a memory of size 0 with room for so many pages, in which all is zero and no block is marked
pub record IsZeroed (pages : ℕ) (memory : Memory) : Type 0 where
  pub bytes : memory.bytes.items ≡ replicate (pages * page_size) 0
  pub size : memory.pages ≡ 0
  pub marks : memory.marks.items ≡ replicate (pages * page_size / block_size) false

-- Zeros come on, and the answer is the size before.
pub record IsGrown (most pages : ℕ) (old : Memory) (before : ℕ) (new : Memory) : Type 0 where
  pub fits : old.pages + pages ≤ most
  pub before_is : before ≡ old.pages
  pub shown_is : shown new ≡ shown old ++ replicate (pages * page_size) 0

-- It grows where there are then at most so many pages, and else nothing happens.
abbrev pub Grows : (most pages : ℕ) → Memory → Option ℕ → Memory → Type 0
Grows most pages old None new = (most < old.pages + pages) × (shown new ≡ shown old)
Grows most pages old (Some before) new = IsGrown most pages old before new
