-- Results on more fuel.
use Rattle.std.specs.Prelude.{ℕ, ◌+◌, Bool, true, false, Option, option_map}
use Rattle.std.specs.Option.{option_map_or}
use Rattle.wasm_values.specs.declared.outcome.Outcome.{Outcome}
use Rattle.wasm_values.specs.declared.outcome.Outcome.TheVariants as outcome
use Rattle.wasm_spec.specs.Result.{CallResult}

abbrev pub is_fuel : Outcome → Bool
is_fuel outcome.Fuel = true
is_fuel _ = false

abbrev pub is_fuel_end : Option CallResult → Bool
is_fuel_end o = option_map_or (λ r. is_fuel r.outcome) o false

-- the same result with so much more fuel left
abbrev pub with_more : ℕ → Option CallResult → Option CallResult
with_more d o = option_map {T = CallResult} (λ r. record r { fuel = r.fuel + d }) o
