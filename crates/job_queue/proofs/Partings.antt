-- Passes that are parted from the putter's, one after another.
use Rattle.std.proofs.Common.{◌≡◌, ℕ, ◌+◌, ◌-◌, List, [], ◌∷◌, ◌++◌, length, All, ap, ◌∙◌, arith, length-append}
use Rattle.std.proofs.lemmas.List.Elements.{All-push}
use Rattle.job_queue.specs.declared.accounts.Account.{Account}
use Rattle.job_queue.specs.declared.jobs.Jobs.{Jobs}
use Rattle.job_queue.specs.Accounts.{parted}
use Rattle.job_queue.specs.Passes.{JobPass, IsJobPass, IsNewTakerOf, account_of}

module _ {M : Type 0} where
  -- n were parted from the first pass
  abbrev pub less : Account M → ℕ → Account M
  less a n = record a { share = a.share - n }

  pub record ArePartedFrom (jobs : Jobs M) (first : JobPass M) (n : ℕ) (pass : JobPass M) (takers : List (JobPass M)) : Type 0 where
    pub own : IsJobPass jobs pass
    pub left : account_of pass ≡ less (account_of first) n
    pub count : length takers ≡ n
    pub new : All (IsNewTakerOf jobs) takers

  less_one : (a : Account M) (n : ℕ) → parted (less a n) ≡ less a (n + 1)
  less_one a n = let e : a.share - n - 1 ≡ a.share - (n + 1) = omega arith in λ i. record a { share = e i }

  pub one_more : (jobs : Jobs M) (first pass after taker : JobPass M) (n : ℕ) (takers : List (JobPass M)) → ArePartedFrom jobs first n pass takers
      → IsJobPass jobs after → account_of after ≡ parted (account_of pass) → IsNewTakerOf jobs taker → ArePartedFrom jobs first (n + 1) after (takers ++ taker ∷ [])
  one_more jobs first pass after taker n takers h own left new = record {
    own = own;
    left = left ∙ (ap parted h.left ∙ less_one (account_of first) n);
    count = let c = h.count in omega (arith, length-append takers (taker ∷ []));
    new = All-push (IsNewTakerOf jobs) takers taker h.new new;
  }
