-- What goes round among workers that make calls in slices.
use Rattle.std.specs.Prelude.{◌≡◌, ◌↔◌, ℕ, ◌-◌, ◌*◌, ◌<◌, List, [], ◌∷◌, false, flat_map, None, Some, slice_get}
use Rattle.module_store.specs.declared.naming.Naming.{Ghosts}
use Rattle.retired_tags.specs.Passes.{IsTagPass, TagPass}
use Rattle.pool_host.specs.declared.host.Host.{Host}
use Rattle.pool_host.specs.declared.passes.Passes.{Passes}
use Rattle.pool_host.specs.declared.paused.Paused.{Paused}
use Rattle.instance_calls.specs.CallWords.{MayCall}
use Rattle.instance_calls.specs.PausedViews.{PausedView}
use Rattle.instance_calls.specs.Resumed.{IsCallOf}
use Rattle.pool_host.specs.Hosts.{ArePassesOf, IsHostPass}
use Rattle.pool_host.specs.Pausing.{AreOfHost}
use Rattle.call_jobs.specs.declared.calls.Due.{Due}
use Rattle.slice_steps.specs.declared.queued.Queued.{Queued}
use Rattle.slice_steps.specs.declared.queued.Queued.TheVariants as queued
use Rattle.call_jobs.specs.Entries.{Pair}

-- what is paused is the call of this number among these, which is sent nothing, and whose line shows no bytes; its number and its fuel are of 32 bits
pub record IsCallIn (calls : List Due) (number : ℕ) (v : PausedView) : Type 0 where
  pub counted : 0 < number
  pub due : Due
  pub due_is : slice_get calls (number - 1) ≡ Some due
  pub unsent : due.invocation.request ≡ None
  pub quiet : due.invocation.shows ≡ false
  pub function : ℕ
  pub may : MayCall v.named.tree due.invocation.export function due.invocation.args
  pub call : IsCallOf v.named function due.invocation.args due.invocation.fuel v
  pub small : (number < 4294967296) × (v.call.fuel < 4294967296)

-- it has made slices of so many turns, and no turn else
pub record HasMadeSlices (slice : ℕ) (v : PausedView) : Type 0 where
  pub slices : ℕ
  pub turns_are : v.call.turns ≡ slices * slice

module _ {N : Type 0} where
  -- these are passes of the host: at its pools, and at its retired tags
  pub record AreIdleOn (host : Host N) (p : Passes N) (t : TagPass) : Type 0 where
    pub pools : ArePassesOf host p
    pub tags : IsTagPass host.retired.tags t

  -- the call is paused on this host, with these passes
  pub record IsPausedIn (host : Host N) (calls : List Due) (p : Passes N) (t : TagPass) (v : PausedView) (number : ℕ) : Type 0 where
    pub pools : AreOfHost host p v
    pub tags : IsTagPass host.retired.tags t
    pub call : IsCallIn calls number v

  -- so it goes round in slices of so many turns
  pub record IsSlicedIn (host : Host N) (calls : List Due) (slice : ℕ) (p : Passes N) (t : TagPass) (v : PausedView) (number : ℕ) : Type 0 where
    pub paused : IsPausedIn host calls p t v number
    pub whole : HasMadeSlices slice v

  -- what is known of idle passes, and of calls that are paused, is that they are of this host and of these calls, which go round in slices of so many turns
  pub record NamesRun (host : Host N) (calls : List Due) (slice : ℕ) (idle : Passes N → TagPass → Type 0) (paused : Passes N → TagPass → PausedView → ℕ → Type 0) : Type 0 where
    pub idle_are : (p : Passes N) (t : TagPass) → idle p t ↔ AreIdleOn host p t
    pub paused_are : (p : Passes N) (t : TagPass) (v : PausedView) (number : ℕ) → paused p t v number ↔ IsSlicedIn host calls slice p t v number

module _ {N : Type 0} {G : Ghosts N} where
  -- what is known of idle passes, or of calls that are paused, is so of this
  abbrev pub goes_round : (Passes N → TagPass → Type 0) → (Passes N → TagPass → PausedView → ℕ → Type 0) → Queued N G → Type 0
  goes_round idle paused (queued.Idle pass) = idle pass.passes pass.retired
  goes_round idle paused (queued.Paused p) = paused p.passes p.retired p.running p.number

  -- a pass of the host, or a call of these that is paused there
  abbrev pub IsOnHost : Host N → List Due → Queued N G → Type 0
  IsOnHost host calls (queued.Idle pass) = IsHostPass host pass
  IsOnHost host calls (queued.Paused p) = IsPausedIn host calls p.passes p.retired p.running p.number

  -- a pass of the host, or a call of these that is paused there between slices of so many turns
  abbrev pub IsOfRun : Host N → List Due → (slice : ℕ) → Queued N G → Type 0
  IsOfRun host calls slice (queued.Idle pass) = IsHostPass host pass
  IsOfRun host calls slice (queued.Paused p) = IsSlicedIn host calls slice p.passes p.retired p.running p.number

  -- the pair of a call that is paused: its number, and its module
  abbrev pub paused_pair : Paused N G → Pair
  paused_pair paused = (paused.number, Some paused.running.named)

  -- that of what goes round, if it is a call
  abbrev pub pair_of : Queued N G → List Pair
  pair_of (queued.Idle pass) = []
  pair_of (queued.Paused paused) = paused_pair paused ∷ []

  -- those of all calls among these
  abbrev pub pairs_of : List (Queued N G) → List Pair
  pairs_of items = flat_map pair_of items
