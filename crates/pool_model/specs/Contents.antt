-- What lies in a slot of each kind: how it is prepared and cleared, and when it may lie under a state word.
use Rattle.std.specs.Prelude.{◌≡◌, ℕ, ◌+◌, ◌-◌, ◌*◌, ◌/◌, ◌==◌, Bool, true, false, List, [], ◌∷◌, ◌++◌, Option, Some, None, length, take, drop, map, replicate, slice_index, slice_index_or, nat_lt, if◌then◌else◌}
use Rattle.wasm_values.specs.declared.outcome.Val.{Val}
use Rattle.wasm_types.specs.declared.module.Module.{Module}
use Rattle.wasm_types.specs.Tree.{ModuleTree}
use Rattle.wasm_spec.specs.Store.{Store, fresh_store, minimum_of, page_size}
use Rattle.memory_blocks.specs.Blocks.{is_marked}
use Rattle.pool_model.specs.declared.kinds.Kind.{Kind}
use Rattle.pool_model.specs.declared.kinds.Kind.TheVariants.{Instance, Memory, Table}
use Rattle.pool_core.specs.declared.words.State.{State}
use Rattle.pool_core.specs.declared.words.State.TheVariants.{Cold, Warm, Awaiting}

-- a loaded module, with the number under which it stands and its tag: its tree, and the numbered sequences by which it is run
pub record Named : Type 0 where
  pub number : ℕ
  pub tag : ℕ
  pub tree : ModuleTree
  pub code : Module

-- bytes to the configured maximum, the size in pages, a mark for each block of 4,096 bytes, and the module that it belongs to
pub record MemoryContents : Type 0 where
  pub bytes : List ℕ
  pub pages : ℕ
  pub marks : List Bool
  pub holds : Option Named

pub record TableContents : Type 0 where
  pub entries : List (Option ℕ)
  pub holds : Option Named

-- an instance's ticket has its globals; beside it an instance has a memory and a table, or one of them, or neither
abbrev pub Contents : Kind → Type 0
Contents Instance = List Val
Contents Memory = MemoryContents
Contents Table = TableContents

-- the module that contents belong to; a ticket belongs to none
abbrev pub owner : (k : Kind) → Contents k → Option Named
owner Instance x = None
owner Memory x = x.holds
owner Table x = x.holds

abbrev pub belongs_to : Named → Option Named → Bool
belongs_to m None = false
belongs_to m (Some own) = own.number == m.number

-- ---- images

-- these bytes, and then zeros to so many pages
abbrev pub filled : ℕ → List ℕ → List ℕ
filled pages bytes = bytes ++ replicate (pages * page_size - length bytes) 0

-- what a memory is before its module runs; without a module all is zero
abbrev pub memory_image : ℕ → Option Named → List ℕ
memory_image pages None = filled pages []
memory_image pages (Some m) = filled pages (fresh_store m.tree).memory

abbrev pub table_image : Option Named → List (Option ℕ)
table_image None = []
table_image (Some m) = (fresh_store m.tree).table

-- the bytes from the place i on, of which those in marked blocks are written anew from the image
abbrev pub rewritten_from : ℕ → List Bool → List ℕ → List ℕ → List ℕ
rewritten_from i marks image [] = []
rewritten_from i marks image (b ∷ bs) =
    (if is_marked marks i then slice_index image i else b) ∷ rewritten_from (i + 1) marks image bs

-- ---- preparing

-- Where the contents belong to this module already, the marked blocks alone are written, and else all. Of a ticket the module's globals are written.
abbrev pub prepared : ℕ → Named → (k : Kind) → Contents k → Contents k
prepared pages m Instance x = (fresh_store m.tree).globals ++ drop (length (fresh_store m.tree).globals) x
prepared pages m Memory x = record {
  bytes = if belongs_to m x.holds then rewritten_from 0 x.marks (memory_image pages (Some m)) x.bytes else memory_image pages (Some m);
  pages = minimum_of m.tree.memories;
  marks = map (λ marked. false) x.marks;
  holds = Some m;
}
prepared pages m Table x = record { entries = if belongs_to m x.holds then x.entries else table_image (Some m); holds = Some m }

-- prepared for its own module
abbrev pub restored_for : ℕ → Option Named → (k : Kind) → Contents k → Contents k
restored_for pages None k x = x
restored_for pages (Some m) k x = prepared pages m k x

abbrev pub restored : ℕ → (k : Kind) → Contents k → Contents k
restored pages k x = restored_for pages (owner k x) k x

-- these contents in place of those of their kind
abbrev pub replaced : (k : Kind) → Contents k → (j : Kind) → Contents j → Contents j
replaced Instance x Instance y = x
replaced Memory x Memory y = x
replaced Table x Table y = x
replaced k x j y = y

-- ---- the store of a call

-- the kinds of which a call of the module needs a slot
abbrev pub needs : Kind → ModuleTree → Bool
needs Instance m = true
needs Memory m = nat_lt 0 (length m.memories)
needs Table m = nat_lt 0 (length m.tables)

abbrev pub shown_memory : Bool → MemoryContents → List ℕ
shown_memory false x = []
shown_memory true x = take (x.pages * page_size) x.bytes

abbrev pub shown_table : Bool → TableContents → List (Option ℕ)
shown_table false x = []
shown_table true x = x.entries

-- the store that a call of the module has in these contents: the memory up to its size, the table, and the module's globals.
-- An answer does not lie in a slot.
abbrev pub shown_store : ModuleTree → ((k : Kind) → Contents k) → Store
shown_store m x = record {
  memory = shown_memory (needs Memory m) (x Memory);
  table = shown_table (needs Table m) (x Table);
  globals = take (length m.globals) (x Instance);
  answer = [];
}

-- the contents after a turn that left this store and these marks
abbrev pub turned : ℕ → Store → List Bool → (k : Kind) → Contents k → Contents k
turned pages store marks Instance x = store.globals ++ drop (length store.globals) x
turned pages store marks Memory x = record x { bytes = filled pages store.memory; pages = length store.memory / page_size; marks = marks }
turned pages store marks Table x = record x { entries = store.table }

-- ---- fitting a state word

-- no block is marked
abbrev pub IsClean : List Bool → Type 0
IsClean marks = (k : ℕ) → slice_index_or marks k false ≡ false

pub record IsColdMemory (pages : ℕ) (x : MemoryContents) : Type 0 where
  pub holds : x.holds ≡ None
  pub size : x.pages ≡ 0
  pub bytes : x.bytes ≡ memory_image pages None
  pub clean : IsClean x.marks

-- A ticket is cold whatever its globals are: each call writes all of its own.
abbrev pub IsCold : ℕ → (k : Kind) → Contents k → Type 0
IsCold pages Instance x = Unit {0}
IsCold pages Memory x = IsColdMemory pages x
IsCold pages Table x = (x.holds ≡ None) × (x.entries ≡ [])

-- as a fresh memory of the module
pub record IsFreshMemory (pages : ℕ) (x : MemoryContents) (m : Named) : Type 0 where
  pub holds : x.holds ≡ Some m
  pub size : x.pages ≡ minimum_of m.tree.memories
  pub bytes : x.bytes ≡ memory_image pages (Some m)
  pub clean : IsClean x.marks

-- outside the marked blocks the bytes are the image's
abbrev pub HasImageOutside : List ℕ → List ℕ → List Bool → Type 0
HasImageOutside image bytes marks = (i : ℕ) → is_marked marks i ≡ false → slice_index bytes i ≡ slice_index image i

pub record IsUsedMemory (pages : ℕ) (x : MemoryContents) (m : Named) : Type 0 where
  pub holds : x.holds ≡ Some m
  pub outside : HasImageOutside (memory_image pages (Some m)) x.bytes x.marks

abbrev pub IsTableOf : TableContents → Named → Type 0
IsTableOf x m = (x.holds ≡ Some m) × (x.entries ≡ table_image (Some m))

-- when contents may lie in a slot whose word says this
abbrev pub Matches : ℕ → (k : Kind) → State → (tag : ℕ) → Contents k → Type 0
Matches pages k Cold tag x = IsCold pages k x
Matches pages Instance Warm tag x = ⊥
Matches pages Instance Awaiting tag x = ⊥
Matches pages Memory Warm tag x = (m : Named) × IsFreshMemory pages x m × (m.tag ≡ tag)
Matches pages Memory Awaiting tag x = (m : Named) × IsUsedMemory pages x m × (m.tag ≡ tag)
Matches pages Table Warm tag x = (m : Named) × IsTableOf x m × (m.tag ≡ tag)
Matches pages Table Awaiting tag x = (m : Named) × IsTableOf x m × (m.tag ≡ tag)
