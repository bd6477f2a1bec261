-- The rule of the queue, over what it holds and the accounts of all passes.
use Rattle.std.specs.Prelude.{◌≡◌, ℕ, ◌<◌, Bool, true, false, List, [], ◌++◌, All, sum_by, flat_map}
use Rattle.std.specs.List.Sorted.{IsPermutation}
use mathlib.Core.Option.{some}
use lib.ListN.{get_elem?}
use Rattle.job_queue.specs.declared.accounts.Account.{Account}
use Rattle.job_queue.specs.declared.accounts.Terms.{Terms}
use Rattle.job_queue.specs.Accounts.{MayBePut}

-- 1 for the pass that puts
abbrev pub one_if : Bool → ℕ
one_if true = 1
one_if false = 0

module _ {M : Type 0} where
  -- what one pass says of the queue, where `all` was put
  pub record Fits (terms : Terms) (all : List (ℕ × M)) (a : Account M) : Type 0 where
    pub putter : a.puts ≡ true → a.put ≡ all
    pub taker : a.puts ≡ false → a.put ≡ []
    pub never_puts : a.share ≡ 0 → a.puts ≡ false
    pub never_given : a.share ≡ 0 → a.given ≡ []
    pub told_so : 0 < a.share → a.terms ≡ terms

  -- What was put is what has gone and then what the queue holds, in order. What has gone is what the passes were given, each pair as often
  pub record IsBalanced (terms : Terms) (gone items : List (ℕ × M)) (accounts : List (Account M)) : Type 0 where
    pub shares : sum_by (λ a. a.share) accounts ≡ terms.passes
    pub one_puts : sum_by (λ a. one_if a.puts) accounts ≡ 1
    pub given_out : IsPermutation gone (flat_map (λ a. a.given) accounts)
    pub each : (port : ℕ) (a : Account M) → get_elem? accounts port ≡ some a → Fits terms (gone ++ items) a
    pub numbers : All (λ x. MayBePut terms x.0) (gone ++ items)

  -- what the queue holds, and what every pass knows, are in balance
  pub record Kept (items : List (ℕ × M)) (accounts : List (Account M)) : Type 0 where
    pub terms : Terms
    pub gone : List (ℕ × M)
    pub balance : IsBalanced terms gone items accounts
