-- The rule of a run queue, over what it holds and the accounts of all passes.
use Rattle.std.specs.Prelude.{◌≡◌, ℕ, ◌+◌, ◌<◌, List, [], ◌++◌, length, All, sum_by, flat_map}
use Rattle.std.specs.List.Sorted.{IsPermutation}
use mathlib.Core.Option.{some}
use lib.ListN.{get_elem?}
use Rattle.job_queue.specs.declared.run_queue.RunAccount.{RunAccount}
use Rattle.job_queue.specs.declared.run_queue.RunTerms.{RunTerms}

module _ {T : Type 0} where
  -- what one pass says of the queue
  pub record KnowsRun (terms : RunTerms) (a : RunAccount T) : Type 0 where
    pub told_so : 0 < a.share → a.terms ≡ terms
    pub never_put : a.share ≡ 0 → a.put ≡ []
    pub never_given : a.share ≡ 0 → a.given ≡ []

  -- What all passes put is what they were given and what the queue holds, each item as often. They may put as many items more as there is
  -- room for.
  pub record IsRunBalanced (terms : RunTerms) (items : List T) (accounts : List (RunAccount T)) : Type 0 where
    pub shares : sum_by (λ a. a.share) accounts ≡ terms.passes
    pub rooms : sum_by (λ a. a.room) accounts + length items ≡ terms.capacity
    pub even : IsPermutation (flat_map (λ a. a.put) accounts) (flat_map (λ a. a.given) accounts ++ items)
    pub each : (port : ℕ) (a : RunAccount T) → get_elem? accounts port ≡ some a → KnowsRun terms a

  -- what the queue holds fits, and is in balance with what every pass knows
  pub record RunKept (fits : T → Type 0) (items : List T) (accounts : List (RunAccount T)) : Type 0 where
    pub terms : RunTerms
    pub balance : IsRunBalanced terms items accounts
    pub fit : All fits items
