-- Passes that are parted from the first, one after another.
use Rattle.std.proofs.Common.{◌≡◌, ℕ, ◌+◌, ◌-◌, List, [], ◌∷◌, ◌++◌, length, All, ap, ◌∙◌, arith, length-append}
use Rattle.std.proofs.lemmas.List.Elements.{All-push}
use Rattle.job_queue.specs.declared.run_queue.RunAccount.{RunAccount}
use Rattle.job_queue.specs.declared.run_queue.RunQueue.{RunQueue}
use Rattle.job_queue.specs.RunAccounts.{run_parted}
use Rattle.job_queue.specs.RunPasses.{RunPass, IsRunPass, IsNewRunPass, run_account_of}

module _ {T : Type 0} where
  -- n were parted from the first pass
  abbrev pub fewer : RunAccount T → ℕ → RunAccount T
  fewer a n = record a { share = a.share - n }

  fewer_one : (a : RunAccount T) (n : ℕ) → run_parted (fewer a n) ≡ fewer a (n + 1)
  fewer_one a n = let e : a.share - n - 1 ≡ a.share - (n + 1) = omega arith in λ i. record a { share = e i }

module _ {T A : Type 0} where
  pub record AreRunsPartedFrom (queue : RunQueue T A) (first : RunPass T) (n : ℕ) (pass : RunPass T) (others : List (RunPass T)) : Type 0 where
    pub own : IsRunPass queue pass
    pub left : run_account_of pass ≡ fewer (run_account_of first) n
    pub count : length others ≡ n
    pub new : All (IsNewRunPass queue) others

  pub one_more_run_pass : (queue : RunQueue T A) (first pass after other : RunPass T) (n : ℕ) (others : List (RunPass T)) → AreRunsPartedFrom queue first n pass others
      → IsRunPass queue after → run_account_of after ≡ run_parted (run_account_of pass) → IsNewRunPass queue other → AreRunsPartedFrom queue first (n + 1) after (others ++ other ∷ [])
  one_more_run_pass queue first pass after other n others h own left new = record {
    own = own;
    left = left ∙ (ap run_parted h.left ∙ fewer_one (run_account_of first) n);
    count = let c = h.count in omega (arith, length-append others (other ∷ []));
    new = All-push (IsNewRunPass queue) others other h.new new;
  }
