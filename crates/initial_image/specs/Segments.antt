-- Where the segments of a module end, and which is the first past its table or memory (WebAssembly Core Specification
-- 1.0, section 4.5.4).
use Rattle.std.specs.Prelude.{◌≡◌, ℕ, List, Bool, Option, Some, map, find, nat_lt, unwrap_or}
use Rattle.std.specs.List.{enumerate_from}
use Rattle.wasm_values.specs.declared.outcome.Val.{Val}
use Rattle.wasm_values.specs.declared.outcome.Val.TheVariants as val
use Rattle.wasm_types.specs.Tree.{GlobalTree, ElementTree, DataTree, ModuleTree}
use Rattle.wasm_spec.specs.Validity.{initial_value}
use Rattle.wasm_spec.specs.Store as store
use Rattle.wasm_spec.specs.Store.{Extent, element_extent, data_extent, offset_of, written}
use Rattle.initial_image.specs.declared.image.ImageFault.{ImageFault}
use Rattle.initial_image.specs.declared.image.ImageFault.TheVariants.{Segment, NoMemory}
use Rattle.initial_image.specs.declared.segments.Misfit.{Misfit}
use Rattle.initial_image.specs.declared.segments.SegmentIndex.{SegmentIndex}
use Rattle.initial_image.specs.declared.segments.SegmentIndex.TheVariants.{Element, Data}

abbrev pub index_of : SegmentIndex → store.SegmentIndex
index_of (Element i) = store.Element i
index_of (Data i) = store.Data i

-- what an answer names
abbrev pub extent_of : Misfit → Extent
extent_of f = record { which = index_of f.which; end = f.end; size = f.size }

-- a fault other than want of memory names this segment
abbrev pub Names : Option Extent → ImageFault → Type 0
Names misfit (Segment f) = misfit ≡ Some (extent_of f)
Names misfit NoMemory = Unit {0}

-- it ends past its table or memory
abbrev pub is_past : Extent → Bool
is_past e = nat_lt e.size e.end

-- the first of the element segments, and of the data segments, that does
abbrev pub first_element_misfit : ModuleTree → Option Extent
first_element_misfit m = find is_past (map (element_extent m) (enumerate_from 0 m.element_segments))

abbrev pub first_data_misfit : ModuleTree → Option Extent
first_data_misfit m = find is_past (map (data_extent m) (enumerate_from 0 m.data_segments))

-- ---- what a segment writes

abbrev pub write_elements : ModuleTree → List (Option ℕ) → ElementTree → List (Option ℕ)
write_elements m table s = written table (offset_of m s.offset) (map (λ f. Some f) s.functions)

abbrev pub write_data : ModuleTree → List ℕ → DataTree → List ℕ
write_data m bytes s = written bytes (offset_of m s.offset) s.bytes

-- ---- globals

-- what a global begins with; in a valid module each initialiser has a value
abbrev pub first_value : GlobalTree → Val
first_value g = unwrap_or (initial_value g) (val.I32 0)
