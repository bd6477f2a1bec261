-- What a body that has been read stands for, and where memory may be wanted to read one behind its size.
use Rattle.std.specs.Prelude.{ℕ, List, flat_map}
use Rattle.wasm_types.specs.Tree.{locals_of, expr_tree}
use Rattle.wasm_spec.specs.Numbers.{TakesBytes}
use Rattle.wasm_spec.specs.Grammar.{Body as BodyTree}
use Rattle.wasm_decode.specs.declared.function.Body.{Body}

abbrev pub body_tree : Body → BodyTree
body_tree b = record { locals = flat_map locals_of b.locals; code = expr_tree b.code }

-- behind a size: so many bytes, and memory may be wanted to read what they begin with
pub record WantsSized (Wants : List ℕ → Type 0) (bytes : List ℕ) : Type 0 where
  pub contents : List ℕ
  pub after : List ℕ
  pub sized : TakesBytes contents bytes after
  pub wants : Wants contents
