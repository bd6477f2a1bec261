-- Exports by their names.
use Rattle.std.specs.Prelude.{◌≡◌, ℕ, List, [], Option, Some, None, IsPermutation, length, slice_get}
use Rattle.std.specs.Ordering.{nat_cmp}
use Rattle.std.specs.List.{AllAdjacentBelow, range_with_len}
use Rattle.std.specs.Option.{option_map_or}
use Rattle.std.specs.Cmp.Lexicographic.{slice_cmp}
use Rattle.std.specs.declared.cmp.Ordering.{Ordering}
use Rattle.std.specs.declared.cmp.Ordering.TheVariants.{Less}
use Rattle.wasm_types.specs.declared.module.Export.{Export}
use Rattle.wasm_types.specs.declared.module.ExportDesc.{ExportDesc}
use Rattle.wasm_types.specs.declared.module.ExportDesc.TheVariants as desc

-- the name of an export, empty where there is none of this number
abbrev pub name_of : List Export → ℕ → List ℕ
name_of exports i = option_map_or (λ e. e.name) (slice_get exports i) []

abbrev pub compare : List ℕ → List ℕ → Ordering
compare xs ys = slice_cmp nat_cmp xs ys

-- two exports by their names
abbrev pub of_numbers : List Export → ℕ → ℕ → Ordering
of_numbers exports i j = compare (name_of exports i) (name_of exports j)

-- each of the first exports of these numbers has a name below the next
abbrev pub Rise : List Export → List ℕ → ℕ → Type 0
Rise exports numbers n = AllAdjacentBelow (λ i j. of_numbers exports i j ≡ Less) numbers n

-- the numbers of all exports, by rising names
pub record AreByName (exports : List Export) (numbers : List ℕ) : Type 0 where
  pub all : IsPermutation (range_with_len 0 (length exports)) numbers
  pub rise : Rise exports numbers (length numbers)

-- the function that an export is, if it is one
abbrev pub function_of_desc : ExportDesc → Option ℕ
function_of_desc (desc.Func x) = Some x
function_of_desc _ = None

abbrev pub function_exported : Export → Option ℕ
function_exported e = function_of_desc e.desc
