-- What every memory in a slot keeps.
use Rattle.std.specs.Prelude.{◌≡◌, ℕ, ◌*◌, ◌≤◌, Bool, true, false, List, Option, length, slice_index, slice_index_or}
use Rattle.wasm_spec.specs.Store.{page_size}
use Rattle.linear_memory.specs.declared.memory.Memory.{Memory}
use Rattle.linear_memory.specs.Bytes.{size_of}
use Rattle.memory_blocks.specs.Blocks.{block_size}
use Rattle.pool_limits.specs.declared.numbers.Numbers.{Numbers}
use Rattle.pool_model.specs.Contents.{Named, MemoryContents, memory_image, HasImageOutside}
use Rattle.block_restore.specs.Images.{IsZeroOutside}
use Rattle.memory_slots.specs.Written.{HasDataIn}

-- bytes for the configured pages, a mark for each block of them, a size within them, and outside the marked blocks its image
pub record IsKeptMemory (config : Numbers) (x : MemoryContents) : Type 0 where
  pub room : length x.bytes ≡ config.pages * page_size
  pub marked : length x.bytes ≡ block_size * length x.marks
  pub few : config.pages ≤ 256
  pub size : x.pages ≤ config.pages
  pub outside : HasImageOutside (memory_image config.pages x.holds) x.bytes x.marks

-- a memory in a slot whose image is zero outside the blocks that were written from it, in each of which its module has data
pub record IsWrittenTo (config : Numbers) (written : List Bool) (x : MemoryContents) : Type 0 where
  pub kept : IsKeptMemory config x
  pub blocks : length written ≡ length x.marks
  pub zeros : IsZeroOutside (length x.bytes) written (slice_index (memory_image config.pages x.holds))
  pub least : (k : ℕ) → slice_index_or written k false ≡ true → HasDataIn x.holds k

-- a memory of the machine, which belongs to a module or to none, as a slot's contents
abbrev pub contents_of : Memory → Option Named → MemoryContents
contents_of memory holds = record { bytes = memory.bytes.items; pages = memory.pages; marks = memory.marks.items; holds = holds }

-- a memory of the machine in a slot, whose bytes up to its size are accessible
pub record IsInSlot (config : Numbers) (written : List Bool) (memory : Memory) (holds : Option Named) : Type 0 where
  pub image : IsWrittenTo config written (contents_of memory holds)
  pub accessible : size_of memory ≤ memory.bytes.accessible
