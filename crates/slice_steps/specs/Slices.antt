-- What workers make of calls in slices.
use Rattle.std.specs.Prelude.{◌≡◌, ℕ, ◌+◌, Bool, true, false, List, [], ◌∷◌, ◌++◌, Option, None, Some, Result, Ok, Err, All, length}
use Rattle.std.specs.List.{AllZip}
use Rattle.std.specs.List.Sorted.{IsPermutation}
use Rattle.wasm_values.specs.declared.outcome.NoMemory.{NoMemory}
use Rattle.job_queue.specs.declared.accounts.Account.{Account}
use Rattle.job_queue.specs.declared.run_queue.RunAccount.{RunAccount}
use Rattle.job_queue.specs.declared.run_queue.RunQueue.{RunQueue}
use Rattle.job_queue.specs.Accounts.{with_given}
use Rattle.job_queue.specs.Passes.{IsJobPass, account_of}
use Rattle.job_queue.specs.RunPasses.{IsRunPass, run_account_of, run_room}
use Rattle.module_store.specs.declared.naming.Naming.{Ghosts}
use Rattle.pool_limits.specs.declared.numbers.Numbers.{Numbers}
use Rattle.pool_model.specs.Contents.{Named}
use Rattle.pool_model.specs.declared.kinds.Kind.{Kind}
use Rattle.pool_host.specs.declared.answers.Answer.{Answer}
use Rattle.pool_host.specs.declared.answers.Answer.TheVariants as answer
use Rattle.pool_host.specs.declared.host.Host.{Host}
use Rattle.pool_host.specs.declared.passes.HostPass.{HostPass}
use Rattle.pool_host.specs.declared.paused.Paused.{Paused}
use Rattle.pool_host.specs.CallWords.{IfFull}
use Rattle.pool_host.specs.Hosts.{IsHostPass}
use Rattle.pool_host.specs.Looks.{look_of, Looked}
use Rattle.pool_host.specs.Pausing.{HasEnded, IsPausedAgain}
use Rattle.pool_host.specs.Taking.{TookThose}
use Rattle.pool_host.specs.Trails.{AddsTrails, HasCause}
use Rattle.call_jobs.specs.declared.calls.Due.{Due}
use Rattle.call_jobs.specs.declared.entries.Worked.{Worked}
use Rattle.slice_steps.specs.declared.queued.Queued.{Queued}
use Rattle.slice_steps.specs.declared.queued.Queued.TheVariants as queued
use Rattle.slice_steps.specs.declared.slice_shared.SliceShared.{SliceShared}
use Rattle.slice_steps.specs.declared.slices.Slice.{Slice}
use Rattle.slice_steps.specs.declared.slices.Tried.{Tried}
use Rattle.slice_steps.specs.declared.slices.Tried.TheVariants as tried
use Rattle.slice_steps.specs.declared.pace.Came.{Came}
use Rattle.slice_steps.specs.declared.pace.Came.TheVariants.{End}
use Rattle.slice_steps.specs.declared.steps.Hand.{Hand}
use Rattle.slice_steps.specs.declared.steps.Slicer.{Slicer}
use Rattle.call_jobs.specs.Entries.{IsEntry, Pair, called, zeros}
use Rattle.slice_steps.specs.Queued.{IsOfRun, IsOnHost, pair_of, paused_pair, pairs_of}

-- the kind that a call found full, by its answer
abbrev pub full_in : Option Answer → Option Kind
full_in (Some (answer.Full kind)) = Some kind
full_in _ = None

-- the kind that a call found full, by its entry, if it has one
abbrev pub full_kind : Result (Option Worked) NoMemory → Option Kind
full_kind (Ok (Some worked)) = full_in worked.answer
full_kind _ = None

-- these entries have one more, if one was made
abbrev pub KeepsEntry : Result (Option Worked) NoMemory → (before after : List Worked) → Type 0
KeepsEntry (Ok None) before after = after ≡ before
KeepsEntry (Ok (Some worked)) before after = after ≡ before ++ worked ∷ []
KeepsEntry (Err wanting) before after = ⊥

-- these have some more, of which that is so
pub record HasMore (P : List Worked → Type 0) (before after : List Worked) : Type 0 where
  pub more : List Worked
  pub after_is : after ≡ before ++ more
  pub so : P more

-- how often a worker was told to end
abbrev pub ends_of : Came → ℕ
ends_of End = 1
ends_of _ = 0

-- a call that a worker had in hand: it has begun, or it waits for its slots
abbrev pub begun_of : Pair → Bool → List Pair
begun_of pair true = pair ∷ []
begun_of pair false = []

module _ {N : Type 0} {G : Ghosts N} where
  -- the account of a pass, but for how many items it may put
  abbrev pub roomless : RunAccount (Queued N G) → RunAccount (Queued N G)
  roomless account = record account { room = 0 }

module _ {N : Type 0} {G : Ghosts N} (config : Numbers) (host : Host N) where
  -- A call of the module was answered so at once, with this pass of the host. It added to the trails what such a call adds. It was full only for
  -- its cause, and whether the module was retired was read at its one look.
  pub record WasAnswered (m : Named) (answer : Answer) (before after : HostPass N G) : Type 0 where
    pub own : IsHostPass host after
    pub trails : AddsTrails config host m answer before.passes after.passes
    pub full : IfFull answer (HasCause config host m before.passes after.passes)
    pub looked : Looked host.retired.tags m.tag before.retired after.retired (look_of answer)

  -- so it was of a call with this module; without a module the pass is as it was
  abbrev pub AnsweredAtOnce : Option Named → Option Answer → (before after : HostPass N G) → Type 0
  AnsweredAtOnce None answer before after = after ≡ before
  AnsweredAtOnce (Some m) None before after = ⊥
  AnsweredAtOnce (Some m) (Some answer) before after = WasAnswered m answer before after

  -- a paused call was answered so: it ended, in a slice of so many turns
  abbrev pub AnsweredPaused : (turns : ℕ) → Option Answer → (before : Paused N G) → (after : HostPass N G) → Type 0
  AnsweredPaused turns (Some (answer.Done outcome)) before after = HasEnded config host before turns outcome after
  AnsweredPaused turns _ before after = ⊥

  -- the call of this pair was answered so, and this pass is idle, where that was taken
  abbrev pub AnsweredWith : (turns : ℕ) → Pair → Option Answer → (after : HostPass N G) → (taken : Queued N G) → Type 0
  AnsweredWith turns pair answer after (queued.Idle before) = AnsweredAtOnce pair.1 answer before after
  AnsweredWith turns pair answer after (queued.Paused before) = (paused_pair before ≡ pair) × AnsweredPaused turns answer before after

  -- so it was where what was left is a pass
  abbrev pub AnsweredBy : (turns : ℕ) → Pair → Option Answer → (taken left : Queued N G) → Type 0
  AnsweredBy turns pair answer taken (queued.Idle after) = AnsweredWith turns pair answer after taken
  AnsweredBy turns pair answer taken (queued.Paused after) = ⊥

  -- A call has begun with this pass: it took its slots, and has made no turn. Its module was not retired at its one look.
  pub record HasBegunWith (before : HostPass N G) (after : Paused N G) : Type 0 where
    pub took : TookThose host after.running.named before.passes after.passes after.running.ticket after.running.memory after.running.table
    pub looked : Looked host.retired.tags after.running.named.tag before.retired after.retired (Some false)
    pub turns_are : after.running.call.turns ≡ 0

  -- a call goes on from what was taken: it has begun with the pass, or has made exactly one slice of so many turns
  abbrev pub GoesOnFrom : (turns : ℕ) → (after : Paused N G) → (taken : Queued N G) → Type 0
  GoesOnFrom turns after (queued.Idle before) = HasBegunWith before after
  GoesOnFrom turns after (queued.Paused before) = IsPausedAgain config host before turns after

  -- so it is of what was left, if that is a call
  abbrev pub GoesOn : (turns : ℕ) → (taken left : Queued N G) → Type 0
  GoesOn turns taken (queued.Idle after) = Unit {0}
  GoesOn turns taken (queued.Paused after) = GoesOnFrom turns after taken

  module _ (calls : List Due) where
    -- the entry for a pair, whose call was answered where this was taken and that was left
    pub record IsMadeBy (turns : ℕ) (taken left : Queued N G) (pair : Pair) (worked : Worked) : Type 0 where
      pub entry : IsEntry config calls pair worked
      pub answered : AnsweredBy turns pair worked.answer taken left

    -- the call of this pair goes round, or it is answered and its entry is made; where memory was refused neither is so
    abbrev pub GoesRound : (turns : ℕ) → (taken : Queued N G) → Pair → (left : Queued N G) → Result (Option Worked) NoMemory → Type 0
    GoesRound turns taken pair left (Ok None) = (pair_of left ≡ pair ∷ []) × GoesOn turns taken left
    GoesRound turns taken pair left (Ok (Some worked)) = (pair_of left ≡ []) × IsMadeBy turns taken left pair worked
    GoesRound turns taken pair left (Err wanting) = pair_of left ≡ []

    -- what a slice of the call of this pair left of what was taken
    pub record IsSliceOf (turns : ℕ) (taken : Queued N G) (pair : Pair) (slice : Slice N G) : Type 0 where
      pub fits : IsOnHost host calls slice.queued
      pub goes : GoesRound turns taken pair slice.queued slice.entry

    -- A call was begun with this pass, and went on from there, or it found a kind full for its cause, with that pass left.
    abbrev pub HasTried : (turns : ℕ) → (before : HostPass N G) → Pair → Tried N G → Type 0
    HasTried turns before pair (tried.Full after kind) = IsHostPass host after × AnsweredAtOnce pair.1 (Some (answer.Full kind)) before after
    HasTried turns before pair (tried.Left slice) = IsSliceOf turns (queued.Idle before) pair slice × (full_kind slice.entry ≡ None)

module _ {N : Type 0} (G : Ghosts N) (config : Numbers) (host : Host N) (calls : List Due) where
  -- An entry for a pair. What was taken is of a run in slices of the one length: a pass of the host, or a call that has made whole slices. The call
  -- of the pair was answered there, a paused one in a slice of the other length. It was not given up because a kind was full.
  pub record IsMade (slice turns : ℕ) (pair : Pair) (worked : Worked) : Type 0 where
    pub taken : Queued N G
    pub went_round : IsOfRun host calls slice taken
    pub left : Queued N G
    pub made : IsMadeBy config host calls turns taken left pair worked
    pub found_slots : full_in worked.answer ≡ None

module _ {N : Type 0} {G : Ghosts N} (config : Numbers) (host : Host N) (calls : List Due) (slice : ℕ) where
  -- What was put back: it is what was taken, or goes on from it by its start, or by exactly one slice.
  pub record IsPutBack (item : Queued N G) : Type 0 where
    pub taken : Queued N G
    pub went_round : IsOfRun host calls slice taken
    pub goes_on : GoesOn config host slice taken item

  -- What a worker did, while the account of its pass of the run queue went from this to that: the calls that it had in hand and those that
  -- it took as they went round are those that it put to go round again and those of which it made the entries, each as often.
  pub record WorkedOn (held : List Pair) (was now : RunAccount (Queued N G)) (entries : List Worked) : Type 0 where
    pub given : List (Queued N G)
    pub put : List (Queued N G)
    pub run_is : roomless now ≡ record (roomless was) { put = was.put ++ put; given = was.given ++ given }
    pub put_are : All IsPutBack put
    pub made : List Pair
    pub entries_are : AllZip (IsMade G config host calls slice slice) made entries
    pub even : IsPermutation (held ++ pairs_of given) (pairs_of put ++ made)

  -- What a worker did in slices: the calls that it had in hand are those that it was given meanwhile, and it was so often told to end.
  pub record DidSlices (ends : ℕ) (before after : Account (Option Named)) (was now : RunAccount (Queued N G)) (entries : List Worked) : Type 0 where
    pub taken : List Pair
    pub account_is : after ≡ with_given before taken
    pub ended : zeros taken ≡ ends
    pub work : WorkedOn (called taken) was now entries

-- ---- what a worker did, by its passes and its entries before and after

module _ {N : Type 0} {G : Ghosts N} (config : Numbers) (shared : SliceShared N) (slice : ℕ) where
  -- it worked on the calls that it had in hand, and on what went round
  abbrev pub HandWorked : (held : List Pair) → (old new : Slicer N G) → (before after : Hand N G) → Type 0
  HandWorked held old new before after =
      HasMore (WorkedOn config shared.host shared.calls.items slice held (run_account_of old.place) (run_account_of new.place))
      before.made.items after.made.items

  -- it worked on what it was given too, was so often told to end, and made these entries
  abbrev pub WorkerDid : (ends : ℕ) → (old new : Slicer N G) → List Worked → Type 0
  WorkerDid ends old new entries = DidSlices config shared.host shared.calls.items slice ends (account_of old.own) (account_of new.own)
      (run_account_of old.place) (run_account_of new.place) entries

  -- it worked on what it was given too, and made the entries that it has more
  abbrev pub HandDid : (ends : ℕ) → (old new : Slicer N G) → (before after : Hand N G) → Type 0
  HandDid ends old new before after =
      HasMore (WorkerDid ends old new) before.made.items after.made.items

-- A worker at work in a run of such slices: its passes are those of the queues, and the idle ones that it has in hand are of the host. It
-- took so many items besides, and may put back all of these.
pub record IsAtWork {N A : Type 0} {G : Ghosts N} (queue : RunQueue (Queued N G) A) (shared : SliceShared N) (slice besides : ℕ) (worker : Slicer N G)
    (hand : Hand N G) : Type 0 where
  pub own : IsJobPass shared.jobs worker.own
  pub place : IsRunPass queue worker.place
  pub slice_is : worker.slice ≡ slice
  pub passes : All (IsHostPass shared.host) hand.passes.items
  pub room : run_room worker.place ≡ length hand.passes.items + besides

-- a paused call was made to its end: this is left of it, and this is its entry
abbrev pub IsEndOf : {N : Type 0} {G : Ghosts N} → Numbers → SliceShared N → Paused N G → (left : Queued N G) → Worked → Type 0
IsEndOf config shared paused left worked =
    IsMadeBy config shared.host shared.calls.items 18446744073709551615 (queued.Paused paused) left (paused_pair paused) worked
