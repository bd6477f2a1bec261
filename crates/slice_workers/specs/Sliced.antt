-- What workers made of calls in slices, put together.
use Rattle.std.specs.Prelude.{◌≡◌, ◌⊎◌, ℕ, ◌+◌, List, [], ◌++◌, Option, length}
use Rattle.std.specs.List.{AllZip}
use Rattle.std.specs.List.Sorted.{IsPermutation}
use Rattle.job_queue.specs.declared.jobs.Jobs.{Jobs}
use Rattle.job_queue.specs.declared.run_queue.RunQueue.{RunQueue}
use Rattle.job_queue.specs.Passes.{IsJobPass, JobPass, given_to, put_by, share_of}
use Rattle.job_queue.specs.RunPasses.{IsRunPass, RunPass, run_given_to, run_put_by, run_share}
use Rattle.module_store.specs.declared.naming.Naming.{Ghosts}
use Rattle.pool_limits.specs.declared.numbers.Numbers.{Numbers}
use Rattle.pool_model.specs.Contents.{Named}
use Rattle.pool_host.specs.declared.host.Host.{Host}
use Rattle.call_jobs.specs.declared.calls.Due.{Due}
use Rattle.call_jobs.specs.declared.entries.Worked.{Worked}
use Rattle.slice_steps.specs.declared.queued.Queued.{Queued}
use Rattle.slice_steps.specs.declared.slice_shared.SliceShared.{SliceShared}
use Rattle.call_jobs.specs.Entries.{IsEntry, Pair, called, zeros}
use Rattle.slice_steps.specs.Queued.{pairs_of}
use Rattle.slice_steps.specs.Slices.{IsMade}
use Rattle.slice_workers.specs.declared.crew.Sliced.{Sliced}

-- An entry for a pair: the last slice of its call had the same length as the others, or so many turns that no call has fuel for them.
abbrev pub IsSliced : {N : Type 0} → Ghosts N → Numbers → Host N → List Due → (slice : ℕ) → Pair → Worked → Type 0
IsSliced G config host calls slice pair worked = IsMade G config host calls slice slice pair worked ⊎ IsMade G config host calls slice 18446744073709551615 pair worked

-- What passes of both queues did that stand for so many workers and for whoever put the idle passes: the workers were told to end, and
-- the calls that they were given and that they took as they went round are those that went round and those of these entries, each as often.
pub record HaveSliced {N A : Type 0} {G : Ghosts N} (config : Numbers) (shared : SliceShared N) (queue : RunQueue (Queued N G) A) (slice : ℕ)
    (own : JobPass (Option Named)) (place : RunPass (Queued N G)) (workers : ℕ) (entries : List Worked) : Type 0 where
  pub is_own : IsJobPass shared.jobs own
  pub is_place : IsRunPass queue place
  pub share : share_of own ≡ workers
  pub places : run_share place ≡ workers + 1
  pub puts_none : put_by own ≡ []
  pub ended : zeros (given_to own) ≡ workers
  pub made : List Pair
  pub entries_are : AllZip (IsSliced G config shared.host shared.calls.items slice) made entries
  pub even : IsPermutation (called (given_to own) ++ pairs_of (run_given_to place)) (pairs_of (run_put_by place) ++ made)

-- what passes of both queues did, for as many workers as the pass of the queue of calls stands for
abbrev pub WorkersHaveSliced : {N A : Type 0} {G : Ghosts N} → Numbers → SliceShared N → RunQueue (Queued N G) A → (slice : ℕ) → Sliced N → RunPass (Queued N G) → Type 0
WorkersHaveSliced config shared queue slice sliced place = HaveSliced config shared queue slice sliced.own place (share_of sliced.own) sliced.entries.items

-- A pass of the queue of calls that stands for so many workers, each of which was told to end, and the entries of all calls that they were
-- given, in some order.
pub record HasSlicedAll (config : Numbers) (jobs : Jobs (Option Named)) (calls : List Due) (own : JobPass (Option Named)) (workers : ℕ) (entries : List Worked) : Type 0 where
  pub is_own : IsJobPass jobs own
  pub share : share_of own ≡ workers
  pub puts_none : put_by own ≡ []
  pub ended : zeros (given_to own) ≡ workers
  pub made : List Pair
  pub all : IsPermutation (called (given_to own)) made
  pub entries_are : AllZip (IsEntry config calls) made entries

-- These are entries for the calls of these pairs, in some order, each with its cause: made at once, or in slices of so many turns.
pub record AreMade {N : Type 0} (G : Ghosts N) (config : Numbers) (host : Host N) (calls : List Due) (slice : ℕ) (pairs : List Pair) (entries : List Worked) : Type 0 where
  pub made : List Pair
  pub all : IsPermutation pairs made
  pub entries_are : AllZip (IsSliced G config host calls slice) made entries

-- so it is of workers that share this
abbrev pub SlicedAll : {N : Type 0} → Numbers → SliceShared N → (workers : ℕ) → Sliced N → Type 0
SlicedAll config shared workers sliced = HasSlicedAll config shared.jobs shared.calls.items sliced.own workers sliced.entries.items

-- and their entries have their causes
abbrev pub AreCaused : {N : Type 0} → Ghosts N → Numbers → SliceShared N → (slice : ℕ) → Sliced N → Type 0
AreCaused G config shared slice sliced = AreMade G config shared.host shared.calls.items slice (called (given_to sliced.own)) sliced.entries.items
