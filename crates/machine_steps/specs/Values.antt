-- The values of a run, the top at the end, and how many there may be.
use Rattle.std.specs.Prelude.{ℕ, List}
use Rattle.wasm_values.specs.declared.outcome.Val.{Val}

pub record Values : Type 0 where
  pub items : List Val
  pub room : ℕ
