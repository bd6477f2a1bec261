-- A run's configuration: the current function, the blocks that are open in it, and the functions that have called, the
-- innermost first.
use Rattle.std.specs.Prelude.{ℕ, List}
use Rattle.wasm_types.specs.declared.types.ValType.{ValType}
use Rattle.wasm_values.specs.declared.outcome.Val.{Val}
use Rattle.wasm_spec.specs.Store.{Store}
use Rattle.wasm_spec.specs.Execution.{State}

-- A block, a loop or an `if` that is open: the types that a branch to it takes and those that its end gives, the operands
-- under it, and where it goes on at its end and at a branch, which are places of the sequence that it stands in.
pub record OpenBlock : Type 0 where
  pub label : List ValType
  pub ends : List ValType
  pub below : List Val
  pub sequence : ℕ
  pub after : ℕ
  pub target : ℕ

-- a function that has called another: where it goes on, and what it left
pub record Activation : Type 0 where
  pub function : ℕ
  pub sequence : ℕ
  pub after : ℕ
  pub locals : List Val
  pub below : List Val
  pub blocks : List OpenBlock

pub record Configuration : Type 0 where
  pub function : ℕ
  pub sequence : ℕ
  pub place : ℕ
  pub locals : List Val
  pub operands : List Val
  pub blocks : List OpenBlock
  pub activations : List Activation

abbrev pub state : Configuration → Store → State
state k store = record { locals = k.locals; operands = k.operands; store = store }
