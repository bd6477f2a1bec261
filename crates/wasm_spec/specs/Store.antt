-- The store (WebAssembly Core Specification 1.0, section 4.2.3) as one module instance sees it, the store that
-- instantiation makes (section 4.5.4), and numbers in memory (section 4.3.1).
use Rattle.std.specs.Prelude.{ℕ, ◌+◌, ◌*◌, List, [], ◌∷◌, ◌++◌, length, map, take, drop, replicate, find, fold, Option, Some, None, unwrap_or, nat_lt}
use Rattle.std.specs.List.{enumerate_from}
use Rattle.std.specs.Int as int
use Rattle.std.specs.Int.{from_le_bytes}
use Rattle.wasm_values.specs.declared.outcome.Val.{Val}
use Rattle.wasm_values.specs.declared.outcome.Val.TheVariants as val
use Rattle.wasm_types.specs.declared.types.Limits.{Limits}
use Rattle.wasm_types.specs.Tree.{Code, ElementTree, DataTree, ModuleTree}
use Rattle.wasm_spec.specs.Validity.{initial_value, offset_value}

-- The bytes of the one memory, the elements of the one table (a function's index or nothing), the globals' values, and the
-- bytes of the answer. A module without a memory or a table has an empty one.
pub record Store : Type 0 where
  pub memory : List ℕ
  pub table : List (Option ℕ)
  pub globals : List Val
  pub answer : List ℕ

-- how many bytes a page has (section 4.2.8)
abbrev pub page_size : ℕ
page_size = 65536

-- the list after these items were written over those from a place on
abbrev pub written : {A : Type 0} → List A → ℕ → List A → List A
written list at items = take at list ++ (items ++ drop (at + length items) list)

-- the number whose bytes, the lowest first, stand in memory from an address on
abbrev pub loaded : int.Width → List ℕ → ℕ → ℕ
loaded width memory at = from_le_bytes width (drop at memory)

-- ---- constant expressions (section 3.3.7.2)

-- What the globals begin with. In a valid module each initialiser has a value.
abbrev pub initial_globals : ModuleTree → List Val
initial_globals m = map (λ g. unwrap_or (initial_value g) (val.I32 0)) m.globals

-- Where a segment begins, read as an unsigned number. In a valid module each offset has a value.
abbrev pub offset_of : ModuleTree → Code → ℕ
offset_of m code = unwrap_or (offset_value m code) 0

-- ---- segments (section 4.5.4)

abbrev pub minimum_of : List Limits → ℕ
minimum_of [] = 0
minimum_of (limits ∷ _) = limits.min

-- the table's size in elements, and the memory's in bytes
abbrev pub table_size : ModuleTree → ℕ
table_size m = minimum_of m.tables

abbrev pub memory_size : ModuleTree → ℕ
memory_size m = minimum_of m.memories * page_size

-- a segment by its place among those of its kind
pub data SegmentIndex : Type 0 where
  Element : (i : ℕ) → SegmentIndex
  Data : (i : ℕ) → SegmentIndex

-- where a segment ends, and the size of the table or memory that it is written into
pub record Extent : Type 0 where
  pub which : SegmentIndex
  pub end : ℕ
  pub size : ℕ

abbrev pub element_extent : ModuleTree → ℕ × ElementTree → Extent
element_extent m (i, s) = record { which = Element i; end = offset_of m s.offset + length s.functions; size = table_size m }

abbrev pub data_extent : ModuleTree → ℕ × DataTree → Extent
data_extent m (i, s) = record { which = Data i; end = offset_of m s.offset + length s.bytes; size = memory_size m }

-- all segments in the order in which they are written
abbrev pub extents : ModuleTree → List Extent
extents m = map (element_extent m) (enumerate_from 0 m.element_segments) ++ map (data_extent m) (enumerate_from 0 m.data_segments)

-- the first segment that reaches past its table or memory
abbrev pub first_misfit : ModuleTree → Option Extent
first_misfit m = find (λ e. nat_lt e.size e.end) (extents m)

-- ---- the fresh store (sections 4.5.3 and 4.5.4)

-- What a new instance begins with, where no segment is a misfit: a table of empty elements and a memory of zeros, at their
-- minimum sizes, and then the segments, each in order; and no answer yet.
abbrev pub fresh_store : ModuleTree → Store
fresh_store m = record {
  memory = fold (λ bytes s. written bytes (offset_of m s.offset) s.bytes) (replicate (memory_size m) 0) m.data_segments;
  table = fold (λ table s. written table (offset_of m s.offset) (map (λ f. Some f) s.functions)) (replicate (table_size m) None) m.element_segments;
  globals = initial_globals m;
  answer = [];
}
