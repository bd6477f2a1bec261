-- Workers that make calls in slices, before and after their work.
use Rattle.std.specs.Prelude.{◌≡◌, ℕ, ◌+◌, ◌*◌, false, true, List, [], All, IfOk, length}
use Rattle.job_queue.specs.declared.run_queue.RunQueue.{RunQueue}
use Rattle.job_queue.specs.Accounts.{new_account}
use Rattle.job_queue.specs.Passes.{IsJobPass, IsNewPassOf, account_of, capacity_of, count_of, first_of, passes_of}
use Rattle.job_queue.specs.RunAccounts.{new_run_account}
use Rattle.job_queue.specs.RunPasses.{FitsWhere, IsNewRunPass, IsRunPass, RunPass, run_account_of, run_given_to, run_put_by, run_room, run_share}
use Rattle.module_store.specs.declared.naming.Naming.{Ghosts}
use Rattle.pool_limits.specs.declared.numbers.Numbers.{Numbers}
use Rattle.pool_limits.specs.declared.share.Share.{Share}
use Rattle.pool_host.specs.Hosts.{HandedOut, HasShare, IsHostPass, IsNewHostPass}
use Rattle.call_jobs.specs.declared.calls.Due.{Due}
use Rattle.slice_steps.specs.declared.queued.Queued.{Queued}
use Rattle.slice_steps.specs.declared.slice_shared.SliceShared.{SliceShared}
use Rattle.slice_workers.specs.declared.crew.SliceCrew.{SliceCrew}
use Rattle.slice_workers.specs.declared.crew.SliceDone.{SliceDone}
use Rattle.slice_steps.specs.declared.steps.Slicer.{Slicer}
use Rattle.slice_steps.specs.Queued.{IsOfRun, pairs_of}
use Rattle.slice_steps.specs.Slices.{DidSlices}

module _ {N : Type 0} {G : Ghosts N} where
  -- So many workers that have not begun, over a host with these slots, and a queue for these calls with room for all and a 0 for each worker.
  -- Two passes of the host for each go round. They are all that it has, and are as they are handed out.
  pub record IsNewSliceCrew (config : Numbers) (share : Share) (calls : List Due) (count : ℕ) (crew : SliceCrew N G) : Type 0 where
    pub host : HasShare config.warm share crew.shared.host
    pub out : HandedOut crew.shared.host (2 * count)
    pub calls_are : crew.shared.calls.items ≡ calls
    pub first : first_of crew.shared.jobs ≡ 1
    pub numbers : count_of crew.shared.jobs ≡ length calls
    pub room : capacity_of crew.shared.jobs ≡ length calls + count
    pub passes : passes_of crew.shared.jobs ≡ count + 1
    pub putter : IsNewPassOf true crew.shared.jobs crew.putter
    pub many : length crew.takers.items ≡ count
    pub takers : All (IsNewPassOf false crew.shared.jobs) crew.takers.items
    pub items : length crew.passes.items ≡ 2 * count
    pub go_round : All (IsHostPass crew.shared.host) crew.passes.items
    pub new : All (IsNewHostPass crew.shared.host) crew.passes.items

  module _ {A : Type 0} (queue : RunQueue (Queued N G) A) where
    -- a worker that has not begun, in a run of such slices, in which just what is of it may go round: its passes are as they are handed out
    pub record IsNewSlicer (may_go_round : Queued N G → Type 0) (shared : SliceShared N) (slice : ℕ) (worker : Slicer N G) : Type 0 where
      pub own : IsNewPassOf false shared.jobs worker.own
      pub place : IsNewRunPass queue worker.place
      pub slice_is : worker.slice ≡ slice
      pub fits : FitsWhere may_go_round (IsOfRun shared.host shared.calls.items slice)

    -- a worker that has ended: its passes are still those of the queues, and it put back all items that it took. If memory lasted, it did its
    -- work.
    pub record IsSliceDone (config : Numbers) (shared : SliceShared N) (slice : ℕ) (done : SliceDone N G) : Type 0 where
      pub own : IsJobPass shared.jobs done.worker.own
      pub place : IsRunPass queue done.worker.place
      pub room : run_room done.worker.place ≡ 0
      pub made : IfOk done.made (λ made. DidSlices config shared.host shared.calls.items slice 1 (new_account shared.jobs.terms false) (account_of done.worker.own)
          (new_run_account queue.terms) (run_account_of done.worker.place) made.items)

    -- the first pass of the run queue, which stands for itself, has put so many idle passes and was given nothing
    pub record HasIdle (many : ℕ) (first : RunPass (Queued N G)) : Type 0 where
      pub own : IsRunPass queue first
      pub share : run_share first ≡ 1
      pub idle : pairs_of (run_put_by first) ≡ []
      pub many_are : length (run_put_by first) ≡ many
      pub given_none : run_given_to first ≡ []
