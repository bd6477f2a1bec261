-- Bytes that are zero at first.
use Rattle.std.specs.Prelude.{ℕ, List}

-- all bytes, and how many of them are accessible: from there on all are zero
pub record BytesView : Type 0 where
  pub items : List ℕ
  pub accessible : ℕ
