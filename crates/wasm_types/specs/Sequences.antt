-- Places in numbered sequences of instructions.
use Rattle.std.specs.Prelude.{ℕ, List, [], get_or, take, drop}
use Rattle.wasm_types.specs.declared.instr.Op.{Op}
use Rattle.wasm_types.specs.declared.instr.Expr.{Expr}
use Rattle.wasm_types.specs.Tree.{Code, End, code_of, codes}

abbrev pub ops_of : Expr → ℕ → List Op
ops_of e q = get_or e.sequences q []

-- the trees of the sequences that a sequence may name
abbrev pub earlier : Expr → ℕ → List Code
earlier e q = take q (codes e)

-- what is left of a sequence from a place on
abbrev pub code_at : Expr → ℕ → ℕ → Code
code_at e q place = code_of (earlier e q) (drop place (ops_of e q))

-- the tree of a sequence that is named in sequence q
abbrev pub named_in : Expr → (q : ℕ) → ℕ → Code
named_in e q inner = get_or (earlier e q) inner End
