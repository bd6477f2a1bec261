-- Workers over the hosts of all tenants, and over the queue of a round, before and after their work.
use Rattle.std.specs.Prelude.{◌≡◌, ℕ, ◌+◌, false, true, List, [], Option, Result, Ok, Err, All, IfOk, Vec, flat_map, length, reverse}
use Rattle.std.specs.Global.{Global}
use Rattle.std.specs.List.{AllZip}
use Rattle.wasm_values.specs.declared.outcome.NoMemory.{NoMemory}
use Rattle.job_queue.specs.declared.jobs.Jobs.{Jobs}
use Rattle.job_queue.specs.Accounts.{new_account}
use Rattle.job_queue.specs.Passes.{IsJobPass, IsNewPassOf, JobPass, account_of, capacity_of, count_of, first_of, given_to, passes_of, put_by, share_of}
use Rattle.module_store.specs.declared.naming.Naming.{Ghosts}
use Rattle.pool_limits.specs.declared.numbers.Numbers.{Numbers}
use Rattle.pool_limits.specs.declared.wants.Want.{Want}
use Rattle.pool_model.specs.Contents.{Named}
use Rattle.tenant_share.specs.declared.passes.Caller.{Caller}
use Rattle.tenant_share.specs.declared.share_host.ShareHost.{ShareHost}
use Rattle.tenant_share.specs.Retiring.{CallerKnows}
use Rattle.tenant_share.specs.Tenants.{HasShares, IsCaller, IsNewCaller}
use Rattle.call_jobs.specs.declared.calls.Due.{Due}
use Rattle.call_jobs.specs.declared.entries.Worked.{Worked}
use Rattle.call_workers.specs.declared.members.Crew.{Crew}
use Rattle.call_workers.specs.declared.members.Done.{Done}
use Rattle.call_workers.specs.declared.members.Round.{Round}
use Rattle.call_workers.specs.declared.members.Worker.{Worker}
use Rattle.call_workers.specs.declared.shared.Shared.{Shared}
use Rattle.call_jobs.specs.Entries.{IsEntry, called, zeros}
use Rattle.call_workers.specs.Taken.{DidWork, HasTaken}

module _ {N : Type 0} {G : Ghosts N} where
  -- hosts with these shares, for these calls, and so many callers, whose passes are as they are handed out
  pub record IsNewCrew (all : List Want) (calls : List Due) (count : ℕ) (crew : Crew N G) : Type 0 where
    pub shares : HasShares all count crew.shared.share
    pub calls_are : crew.shared.calls.items ≡ calls
    pub many : length crew.callers.items ≡ count
    pub callers : All (IsCaller crew.shared.share) crew.callers.items
    pub new : All (IsNewCaller crew.shared.share) crew.callers.items

  -- a worker that has not begun a round: its passes of the tenants are a caller's, and that of the queue is as it is handed out
  pub record IsNewWorker (share : ShareHost N) (jobs : Jobs (Option Named)) (worker : Worker N G) : Type 0 where
    pub caller : IsCaller share worker.caller
    pub own : IsNewPassOf false jobs worker.own

  -- so many workers that have not begun, and a queue for so many calls, numbered from the first on, with room for all and a 0 for each worker
  pub record IsNewRound (share : ShareHost N) (first count hands : ℕ) (round : Round N G) : Type 0 where
    pub first_is : first_of round.jobs ≡ first
    pub numbers : count_of round.jobs ≡ count
    pub room : capacity_of round.jobs ≡ count + hands
    pub passes : passes_of round.jobs ≡ hands + 1
    pub putter : IsNewPassOf true round.jobs round.putter
    pub many : length round.workers.items ≡ hands
    pub workers : All (IsNewWorker share round.jobs) round.workers.items

  -- A worker that has ended: its passes are still those of the tenants and the queue. If memory lasted, it was given calls and then a 0, with an entry for each call.
  pub record HasEnded (config : Numbers) (shared : Shared N) (jobs : Jobs (Option Named)) (done : Done N G) : Type 0 where
    pub caller : IsCaller shared.share done.worker.caller
    pub own : IsJobPass jobs done.worker.own
    pub taken : IfOk done.made (λ made. HasTaken config shared.calls.items (new_account jobs.terms false) (account_of done.worker.own) made.items)

  -- it did the work of the calls that it was given, from this caller on
  abbrev pub HasWorked : Numbers → Shared N → Jobs (Option Named) → (began : Caller N G) → (worker : Worker N G) → List Worked → Type 0
  HasWorked config shared jobs began worker entries = DidWork config shared.share shared.calls.items (new_account jobs.terms false) (account_of worker.own) began worker.caller entries

  -- This worker has ended, and was this one as it began. If memory lasted, it did its work.
  pub record IsDone (config : Numbers) (shared : Shared N) (jobs : Jobs (Option Named)) (began : Worker N G) (done : Done N G) : Type 0 where
    pub ended : HasEnded config shared jobs done
    pub made : IfOk done.made (λ made. HasWorked config shared jobs began.caller done.worker made.items)

module _ {N : Type 0} {G : Ghosts N} where
  -- what each of these callers knew to be retired, each of those knows
  abbrev pub StillKnow : (before after : List (Caller N G)) → Type 0
  StillKnow before after = (tag : ℕ) → All (CallerKnows tag) before → All (CallerKnows tag) after

  -- a worker's caller knows that the module of this tag is retired
  abbrev pub WorkerKnows : (tag : ℕ) → Worker N G → Type 0
  WorkerKnows tag worker = CallerKnows tag worker.caller

  -- so does that of a worker that has ended, if memory lasted
  abbrev pub DoneKnows : (tag : ℕ) → Done N G → Type 0
  DoneKnows tag done = IfOk done.made (λ made. WorkerKnows tag done.worker)

-- the entries that a worker made, if memory lasted
abbrev pub entries_made : Result (Vec Worked Global) NoMemory → List Worked
entries_made (Ok made) = made.items
entries_made (Err wanting) = []

-- the entries that these workers made, those of the last worker first, and each worker's in its order
abbrev pub given_back : {N : Type 0} {G : Ghosts N} → List (Done N G) → List Worked
given_back done = flat_map (λ one. entries_made one.made) (reverse done)

-- A pass of the queue into which the passes of so many workers were joined: it put what it put, was given what they were, a 0 for each
-- worker among it, and these are the entries of those calls.
pub record HasJoined (config : Numbers) (jobs : Jobs (Option Named)) (calls : List Due) (before after : JobPass (Option Named)) (workers : ℕ)
    (entries : List Worked) : Type 0 where
  pub own : IsJobPass jobs after
  pub share : share_of after ≡ share_of before + workers
  pub put : put_by after ≡ put_by before
  pub ended : zeros (given_to after) ≡ workers
  pub made : AllZip (IsEntry config calls) (called (given_to after)) entries
