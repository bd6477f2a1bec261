-- What clauses say of a run queue and of its passes.
use Rattle.std.specs.Prelude.{◌≡◌, ◌↔◌, ℕ, ◌<◌, List}
use Rattle.crossbeam_queue.specs.Passes.{Pass, view, IsPassOf, ruled_capacity}
use Rattle.job_queue.specs.declared.run_queue.RunAccount.{RunAccount}
use Rattle.job_queue.specs.declared.run_queue.RunQueue.{RunQueue}
use Rattle.job_queue.specs.RunAccounts.{first_with_room, new_run_account}

-- a pass of a queue of such items; antt has no name for a Rust alias
abbrev pub RunPass : Type 0 → Type 0
RunPass T = Pass T (RunAccount T)

module _ {T : Type 0} where
  abbrev pub run_account_of : RunPass T → RunAccount T
  run_account_of pass = view pass

  -- how many of the passes that were handed out it stands for
  abbrev pub run_share : RunPass T → ℕ
  run_share pass = (view pass).share

  -- how many items it may put
  abbrev pub run_room : RunPass T → ℕ
  run_room pass = (view pass).room

  -- the items that it put, in order
  abbrev pub run_put_by : RunPass T → List T
  run_put_by pass = (view pass).put

  -- the items that it was given, in order
  abbrev pub run_given_to : RunPass T → List T
  run_given_to pass = (view pass).given

  -- what may be put is just what the predicate says
  abbrev pub FitsWhere : (T → Type 0) → (T → Type 0) → Type 0
  FitsWhere fits P = (x : T) → fits x ↔ P x

module _ {T A : Type 0} where
  -- how many items the queue can hold
  abbrev pub run_capacity : RunQueue T A → ℕ
  run_capacity queue = ruled_capacity queue.queue

  -- how many passes were handed out
  abbrev pub run_passes : RunQueue T A → ℕ
  run_passes queue = queue.terms.passes

  -- the pass is one of this queue
  pub record IsRunPass (queue : RunQueue T A) (pass : RunPass T) : Type 0 where
    pub own : IsPassOf queue.queue pass
    pub live : 0 < run_share pass
    pub terms_are : (view pass).terms ≡ queue.terms
    pub capacity_is : queue.terms.capacity ≡ ruled_capacity queue.queue

  -- the pass is one of this queue, as it is handed out
  pub record IsNewRunPass (queue : RunQueue T A) (pass : RunPass T) : Type 0 where
    pub own : IsRunPass queue pass
    pub account_is : run_account_of pass ≡ new_run_account queue.terms

  -- the first pass of this queue, as it is handed out
  pub record IsFirstRunPass (queue : RunQueue T A) (pass : RunPass T) : Type 0 where
    pub own : IsRunPass queue pass
    pub account_is : run_account_of pass ≡ first_with_room queue.terms

  -- all passes were joined into this one
  abbrev pub HasAllRunPasses : RunQueue T A → RunPass T → Type 0
  HasAllRunPasses queue pass = run_share pass ≡ run_passes queue
