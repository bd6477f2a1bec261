-- What a pass of a run queue put and was given, and what each step makes of it.
use Rattle.std.specs.Prelude.{◌≡◌, ◌+◌, ◌-◌, List, [], ◌∷◌, ◌++◌, length}
use Rattle.std.specs.List.Sorted.{IsPermutation}
use Rattle.job_queue.specs.declared.run_queue.RunAccount.{RunAccount}
use Rattle.job_queue.specs.declared.run_queue.RunTerms.{RunTerms}

-- before a queue is told what it was opened with
abbrev pub first_run_terms : RunTerms
first_run_terms = record { passes = 1; capacity = 0 }

module _ {T : Type 0} where
  -- a pass as it is handed out: it stands for itself, and may put as many items as it is given
  abbrev pub new_run_account : RunTerms → RunAccount T
  new_run_account terms = record { share = 1; terms = terms; room = 0; put = []; given = [] }

  -- the first pass as it is handed out: it may put as many items as there is room for
  abbrev pub first_with_room : RunTerms → RunAccount T
  first_with_room terms = record (new_run_account terms) { room = terms.capacity }

  -- the only pass, before it is told what its queue was opened with
  abbrev pub first_run_account : RunAccount T
  first_run_account = new_run_account first_run_terms

  -- a pass that was joined into another
  abbrev pub spent_run_account : RunTerms → RunAccount T
  spent_run_account terms = record { share = 0; terms = terms; room = 0; put = []; given = [] }

  -- the only pass, told what its queue was opened with
  abbrev pub run_told : RunTerms → RunAccount T → RunAccount T
  run_told terms a = record a { share = terms.passes; terms = terms; room = terms.capacity }

  -- what is left when a pass was parted from it
  abbrev pub run_parted : RunAccount T → RunAccount T
  run_parted a = record a { share = a.share - 1 }

  -- it put these items more, and may put so many less
  abbrev pub with_run_put : RunAccount T → List T → RunAccount T
  with_run_put a xs = record a { room = a.room - length xs; put = a.put ++ xs }

  -- it was given these items more, and may put so many more
  abbrev pub with_run_given : RunAccount T → List T → RunAccount T
  with_run_given a xs = record a { room = a.room + length xs; given = a.given ++ xs }

  -- two passes as one
  abbrev pub run_joined : RunAccount T → RunAccount T → RunAccount T
  run_joined a b = record a { share = a.share + b.share; room = a.room + b.room; put = a.put ++ b.put; given = a.given ++ b.given }

  -- the item is one of those that were put and not given
  pub record IsLeftOf (put given : List T) (x : T) : Type 0 where
    pub rest : List T
    pub left : IsPermutation put (given ++ x ∷ rest)

  -- a pass was given the item, which fits; a pass that stands for all knows that it was left
  pub record IsRunGiven (fits : T → Type 0) (a : RunAccount T) (x : T) (b : RunAccount T) : Type 0 where
    pub fit : fits x
    pub account_is : b ≡ with_run_given a (x ∷ [])
    pub left : a.share ≡ a.terms.passes → IsLeftOf a.put a.given x

  -- where the pass stands for all, what it put is what it was given and what the queue holds
  abbrev pub IsRunSettledBy : RunAccount T → List T → Type 0
  IsRunSettledBy a items = a.share ≡ a.terms.passes → IsPermutation a.put (a.given ++ items)
