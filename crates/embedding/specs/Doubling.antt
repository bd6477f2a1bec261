-- What the calls of `add` are answered.
use Rattle.std.specs.Prelude.{ℕ, List, [], ◌∷◌, codes}
use Rattle.wasm_values.specs.declared.outcome.Val.TheVariants.{I32}
use Rattle.wasm_types.specs.Tree.{ModuleTree}
use Rattle.pool_limits.specs.declared.numbers.Numbers.{Numbers}
use Rattle.instance_calls.specs.CallWords.{run_limits}
use Rattle.pool_host.specs.declared.answers.Answer.{Answer}
use Rattle.pool_host.specs.CallWords.{IsHostAnswer}
use Rattle.embedding.specs.declared.TheConstants.{FUEL}

-- what the host answers to a call of `add` with this number twice, and with which bytes
abbrev pub IsDoubled : Numbers → ModuleTree → (number : ℕ) → Answer → (bytes : List ℕ) → Type 0
IsDoubled config m number answer bytes = IsHostAnswer m (run_limits config) (codes "add") (I32 number ∷ I32 number ∷ []) [] FUEL answer bytes

-- the answers of two calls, with 1 and with 2
pub record HaveDoubled (config : Numbers) (m : ModuleTree) (first second : Answer) : Type 0 where
  pub one : (bytes : List ℕ) × IsDoubled config m 1 first bytes
  pub two : (bytes : List ℕ) × IsDoubled config m 2 second bytes
