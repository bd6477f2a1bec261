-- The limits of a configuration, and what passes them.
use Rattle.std.specs.Prelude.{ℕ, List, Bool, Option, map, find, nat_lt}
use Rattle.std.specs.List.{enumerate_from}
use Rattle.wasm_types.specs.declared.limits.LoadLimits.{LoadLimits}
use Rattle.wasm_spec.specs.Loading as loading
use Rattle.wasm_spec.specs.Loading.{Demand}
use Rattle.pool_limits.specs.declared.numbers.Numbers.{Numbers}
use Rattle.pool_limits.specs.declared.over.Measure.{Measure}
use Rattle.pool_limits.specs.declared.over.Measure.TheVariants.{Pages, Elements, Globals, Frame}
use Rattle.pool_limits.specs.declared.over.Over.{Over}

abbrev pub load_limits : Numbers → LoadLimits
load_limits n = record { pages = n.pages; elements = n.elements; frame = n.frame }

abbrev pub measure_of : Measure → loading.Measure
measure_of Pages = loading.Pages
measure_of Elements = loading.Elements
measure_of Globals = loading.Globals
measure_of (Frame f) = loading.Frame f

-- what an answer names: a demand past its limit
abbrev pub demand_of : Over → Demand
demand_of o = record { which = measure_of o.which; value = o.value; limit = o.limit }

-- it passes its limit
abbrev pub is_past : Demand → Bool
is_past d = nat_lt d.limit d.value

-- what functions from this index on ask for, by the needs of their frames
abbrev pub frame_demands : (index most : ℕ) (needs : List ℕ) → List Demand
frame_demands index most needs = map (λ f. record { which = loading.Frame f.0; value = f.1; limit = most }) (enumerate_from index needs)

-- the first frame need that passes the limit, of functions numbered from this one on
abbrev pub first_frame_over : (first most : ℕ) → List ℕ → Option Demand
first_frame_over first most needs = find is_past (frame_demands first most needs)
