-- What clauses say of a queue of jobs and of its passes.
use Rattle.std.specs.Prelude.{◌≡◌, ℕ, ◌<◌, Bool, true, false, List}
use Rattle.crossbeam_queue.specs.Passes.{Pass, view, IsPassOf, ruled_capacity}
use Rattle.job_queue.specs.declared.accounts.Account.{Account}
use Rattle.job_queue.specs.declared.jobs.Jobs.{Jobs}
use Rattle.job_queue.specs.Accounts.{MayBePut, new_account}

-- a pass of a queue of items of this type; antt has no name for a Rust alias
abbrev pub JobPass : Type 0 → Type 0
JobPass M = Pass (ℕ × M) (Account M)

module _ {M : Type 0} where
  -- the number of its first call
  abbrev pub first_of : Jobs M → ℕ
  first_of jobs = jobs.terms.first

  -- how many calls it has, numbered from the first on
  abbrev pub count_of : Jobs M → ℕ
  count_of jobs = jobs.terms.count

  -- 0, which tells a worker to end, or the number of one of its calls
  abbrev pub IsNumberOf : Jobs M → ℕ → Type 0
  IsNumberOf jobs number = MayBePut jobs.terms number

  -- how many passes were handed out
  abbrev pub passes_of : Jobs M → ℕ
  passes_of jobs = jobs.terms.passes

  -- how many pairs the queue can hold
  abbrev pub capacity_of : Jobs M → ℕ
  capacity_of jobs = ruled_capacity jobs.queue

  abbrev pub account_of : JobPass M → Account M
  account_of pass = view pass

  -- how many of the passes that were handed out it stands for
  abbrev pub share_of : JobPass M → ℕ
  share_of pass = (view pass).share

  -- the pairs that it put, in order
  abbrev pub put_by : JobPass M → List (ℕ × M)
  put_by pass = (view pass).put

  -- the pairs that it was given, in order
  abbrev pub given_to : JobPass M → List (ℕ × M)
  given_to pass = (view pass).given

  -- it is the pass that puts
  abbrev pub IsPutter : JobPass M → Type 0
  IsPutter pass = (view pass).puts ≡ true

  -- the pass is one of this queue
  pub record IsJobPass (jobs : Jobs M) (pass : JobPass M) : Type 0 where
    pub own : IsPassOf jobs.queue pass
    pub live : 0 < share_of pass
    pub terms_are : (view pass).terms ≡ jobs.terms

  -- the pass is one of this queue, as it is handed out
  pub record IsNewPassOf (puts : Bool) (jobs : Jobs M) (pass : JobPass M) : Type 0 where
    pub own : IsJobPass jobs pass
    pub account_is : account_of pass ≡ new_account jobs.terms puts

  abbrev pub IsNewPutterOf : Jobs M → JobPass M → Type 0
  IsNewPutterOf = IsNewPassOf true

  abbrev pub IsNewTakerOf : Jobs M → JobPass M → Type 0
  IsNewTakerOf = IsNewPassOf false

  -- all passes were joined into this one
  abbrev pub StandsForAll : Jobs M → JobPass M → Type 0
  StandsForAll jobs pass = share_of pass ≡ passes_of jobs
