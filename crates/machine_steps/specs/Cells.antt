-- A value as its bits and how many they are.
use Rattle.std.specs.Prelude.{◌≡◌, ◌≢◌, ◌<◌, ◌^◌, nat_eq, if◌then◌else◌}
use Rattle.wasm_values.specs.declared.outcome.Val.{Val}
use Rattle.wasm_values.specs.declared.outcome.Val.TheVariants as val
use Rattle.machine_steps.specs.declared.cells.Cell.TheInside.{Inside}

-- the bits are 32, and then the number is within them, or 64
pub record IsCell (c : Inside) : Type 0 where
  pub narrow : c.width ≡ 32 → c.bits < 2 ^ 32
  pub wide : c.width ≢ 32 → c.width ≡ 64

abbrev pub value_of : Inside → Val
value_of c = if nat_eq c.width 32 then val.I32 c.bits else val.I64 c.bits

abbrev pub cell_of : Val → Inside
cell_of (val.I32 n) = record { bits = n; width = 32 }
cell_of (val.I64 n) = record { bits = n; width = 64 }
