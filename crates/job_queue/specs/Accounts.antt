-- What a pass put and was given, and what each step makes of it.
use Rattle.std.specs.Prelude.{◌≡◌, ℕ, ◌+◌, ◌-◌, ◌<◌, ◌≤◌, ◌⊎◌, Bool, false, ◌||◌, List, [], ◌∷◌, ◌++◌}
use Rattle.std.specs.List.Sorted.{IsPermutation}
use Rattle.job_queue.specs.declared.accounts.Account.{Account}
use Rattle.job_queue.specs.declared.accounts.Terms.{Terms}

-- before a queue is told what it was opened with
abbrev pub first_terms : Terms
first_terms = record { first = 1; count = 0; passes = 1 }

-- the number of one of the calls
abbrev pub IsCallNumber : Terms → ℕ → Type 0
IsCallNumber terms number = (terms.first ≤ number) × (number < terms.first + terms.count)

-- a number that may be put: 0, which tells a worker to end, or that of a call
abbrev pub MayBePut : Terms → ℕ → Type 0
MayBePut terms number = (number ≡ 0) ⊎ IsCallNumber terms number

module _ {M : Type 0} where
  -- a pass as it is handed out: it stands for itself, and put and was given nothing
  abbrev pub new_account : Terms → Bool → Account M
  new_account terms puts = record { share = 1; puts = puts; terms = terms; put = []; given = [] }

  -- a pass that was joined into another
  abbrev pub spent_account : Terms → Account M
  spent_account terms = record { share = 0; puts = false; terms = terms; put = []; given = [] }

  -- the only pass, told what the queue was opened with
  abbrev pub told : Terms → Account M → Account M
  told terms a = record a { share = terms.passes; terms = terms }

  -- what is left when a pass was parted from it
  abbrev pub parted : Account M → Account M
  parted a = record a { share = a.share - 1 }

  -- it put these pairs more
  abbrev pub with_put : Account M → List (ℕ × M) → Account M
  with_put a pairs = record a { put = a.put ++ pairs }

  -- it was given these pairs more
  abbrev pub with_given : Account M → List (ℕ × M) → Account M
  with_given a pairs = record a { given = a.given ++ pairs }

  -- two passes as one
  abbrev pub joined : Account M → Account M → Account M
  joined a b = record a { share = a.share + b.share; puts = a.puts || b.puts; put = a.put ++ b.put; given = a.given ++ b.given }

  -- the pair is the first of those that were put and not given, in the order in which they were put
  pub record IsNextOf (put given : List (ℕ × M)) (x : ℕ × M) : Type 0 where
    pub gone : List (ℕ × M)
    pub rest : List (ℕ × M)
    pub order : put ≡ gone ++ x ∷ rest
    pub given_out : IsPermutation gone given

  -- a pass was given the pair, whose number is one that may be put; a pass that stands for all knows that it came next
  pub record IsGiven (a : Account M) (x : ℕ × M) (b : Account M) : Type 0 where
    pub number_is : MayBePut a.terms x.0
    pub account_is : b ≡ with_given a (x ∷ [])
    pub next : a.share ≡ a.terms.passes → IsNextOf a.put a.given x

  -- where the pass stands for all, what it put is what it was given and what the queue holds
  abbrev pub IsSettledBy : Account M → List (ℕ × M) → Type 0
  IsSettledBy a items = a.share ≡ a.terms.passes → IsPermutation a.put (a.given ++ items)
