-- Calls that are paused on a host, how they begin and how they go on.
use Rattle.std.specs.Prelude.{◌≡◌, ℕ, ◌+◌, ◌<◌, List, [], Some}
use Rattle.wasm_values.specs.declared.outcome.Outcome.{Outcome}
use Rattle.wasm_values.specs.declared.outcome.Val.{Val}
use Rattle.slot_words.specs.Owned.{slots_of}
use Rattle.retired_tags.specs.Passes.{IsTagPass, TagPass}
use Rattle.module_store.specs.declared.naming.Naming.{Ghosts}
use Rattle.pool_limits.specs.declared.numbers.Numbers.{Numbers}
use Rattle.pool_model.specs.Contents.{Named}
use Rattle.paused_call.specs.Fuel.{fuel_left, left_in}
use Rattle.paused_call.specs.Standing.{Waits}
use Rattle.instance_calls.specs.CallWords.{EndsAs, MayCall}
use Rattle.instance_calls.specs.PausedInstances.{comes_to}
use Rattle.instance_calls.specs.PausedViews.{PausedView}
use Rattle.instance_calls.specs.Resumed.{HasMore, IsBegun}
use Rattle.pool_host.specs.declared.host.Host.{Host}
use Rattle.pool_host.specs.declared.passes.HostPass.{HostPass}
use Rattle.pool_host.specs.declared.passes.Passes.{Passes}
use Rattle.pool_host.specs.declared.paused.Paused.{Paused}
use Rattle.pool_host.specs.declared.answers.Begun.{Begun}
use Rattle.pool_host.specs.declared.answers.Begun.TheVariants as begun
use Rattle.pool_host.specs.declared.answers.Turned.{Turned}
use Rattle.pool_host.specs.declared.answers.Turned.TheVariants.{Again, Done}
use Rattle.pool_host.specs.declared.refusals.Refused.{Refused}
use Rattle.pool_host.specs.declared.refusals.Refused.TheVariants.{BadArgs, Full, NoExport, Retired}
use Rattle.pool_host.specs.Hosts.{ArePassesOf, AreSamePasses, IsHostPass}
use Rattle.pool_host.specs.Outs.{IsWithin}
use Rattle.pool_host.specs.Starting.{HasRefused}
use Rattle.pool_host.specs.Taking.{GaveThose, TookThose}

module _ {N : Type 0} where
  -- these are passes of the host, and slots of its pools
  pub record AreOfHost (host : Host N) (p : Passes N) (v : PausedView) : Type 0 where
    pub own : ArePassesOf host p
    pub ticket : v.ticket.number < slots_of host.tickets
    pub memory : IsWithin (slots_of host.memories) v.memory
    pub table : IsWithin (slots_of host.tables) v.table

module _ {N : Type 0} {G : Ghosts N} where
  -- the call is paused on this host: at its pools, and with a pass at its retired tags
  pub record IsOfHost (host : Host N) (paused : Paused N G) : Type 0 where
    pub pools : AreOfHost host paused.passes paused.running
    pub tags : IsTagPass host.retired.tags paused.retired

  -- a call that has begun with this pass
  pub record IsReady (config : Numbers) (host : Host N) (m : Named) (export : List ℕ) (args : List Val) (fuel number : ℕ) (before : Passes N) (paused : Paused N G) : Type 0 where
    pub own : IsOfHost host paused
    pub same : AreSamePasses before paused.passes
    pub number_is : paused.number ≡ number
    pub function : ℕ
    pub may : MayCall m.tree export function args
    pub begun : IsBegun m function args fuel paused.running
    pub took : TookThose host m before paused.passes paused.running.ticket paused.running.memory paused.running.table

  -- it was refused for this, and its pass keeps no answer
  pub record WasRefused (config : Numbers) (host : Host N) (m : Named) (export : List ℕ) (args : List Val) (before : Passes N) (pass : HostPass N G) (why : Refused) : Type 0 where
    pub own : IsHostPass host pass
    pub same : AreSamePasses before pass.passes
    pub cause : HasRefused config host m export args before pass.passes why
    pub no_answer : pass.answer ≡ []

  abbrev pub HasBegun : Numbers → Host N → Named → (export : List ℕ) → (args : List Val) → (fuel number : ℕ) → Passes N → Begun N G → Type 0
  HasBegun config host m export args fuel number before (begun.Ready paused) = IsReady config host m export args fuel number before paused
  HasBegun config host m export args fuel number before (begun.NoExport pass) = WasRefused config host m export args before pass NoExport
  HasBegun config host m export args fuel number before (begun.BadArgs pass) = WasRefused config host m export args before pass BadArgs
  HasBegun config host m export args fuel number before (begun.Retired pass) = WasRefused config host m export args before pass Retired
  HasBegun config host m export args fuel number before (begun.Full pass kind) = WasRefused config host m export args before pass (Full kind)

  -- where it was refused, its pass says that all its fuel is left
  abbrev pub IsUnspent : (fuel : ℕ) → Begun N G → Type 0
  IsUnspent fuel (begun.Ready paused) = Unit {0}
  IsUnspent fuel (begun.NoExport pass) = pass.left ≡ fuel
  IsUnspent fuel (begun.BadArgs pass) = pass.left ≡ fuel
  IsUnspent fuel (begun.Retired pass) = pass.left ≡ fuel
  IsUnspent fuel (begun.Full pass kind) = pass.left ≡ fuel

  -- its pass at the retired tags, with whom it is now
  abbrev pub begun_tags : Begun N G → TagPass
  begun_tags (begun.Ready paused) = paused.retired
  begun_tags (begun.NoExport pass) = pass.retired
  begun_tags (begun.BadArgs pass) = pass.retired
  begun_tags (begun.Retired pass) = pass.retired
  begun_tags (begun.Full pass kind) = pass.retired

  -- it goes on with the same passes, which did nothing
  pub record IsPausedAgain (config : Numbers) (host : Host N) (before : Paused N G) (slice : ℕ) (paused : Paused N G) : Type 0 where
    pub own : IsOfHost host paused
    pub passes_are : paused.passes ≡ before.passes
    pub tags_are : paused.retired ≡ before.retired
    pub number_is : paused.number ≡ before.number
    pub more : HasMore config before.running slice paused.running

  -- all that it had is given back, and its pass at the retired tags is as it was
  pub record HasGivenBack (config : Numbers) (host : Host N) (before : Paused N G) (pass : HostPass N G) : Type 0 where
    pub own : IsHostPass host pass
    pub same : AreSamePasses before.passes pass.passes
    pub tags_are : pass.retired ≡ before.retired
    pub gave : GaveThose config host before.running.named before.passes pass.passes before.running.ticket before.running.memory before.running.table

  -- it is given up, keeps no answer, and leaves the fuel that its turns have left
  pub record IsGivenUp (config : Numbers) (host : Host N) (before : Paused N G) (pass : HostPass N G) : Type 0 where
    pub back : HasGivenBack config host before pass
    pub no_answer : pass.answer ≡ []
    pub left_is : pass.left ≡ fuel_left before.running.call

  -- it is over, and the pass has its answer, and what it left of its fuel
  pub record HasEnded (config : Numbers) (host : Host N) (before : Paused N G) (slice : ℕ) (outcome : Outcome) (pass : HostPass N G) : Type 0 where
    pub back : HasGivenBack config host before pass
    pub over : ¬ (Waits (comes_to config before.running) before.running.call.fuel (before.running.call.turns + slice))
    pub ends : EndsAs (comes_to config before.running) before.running.call.fuel outcome pass.answer
    pub left_is : left_in (comes_to config before.running before.running.call.fuel) ≡ Some pass.left

  abbrev pub HasTurnedTo : Numbers → Host N → Paused N G → (slice : ℕ) → Turned N G → Type 0
  HasTurnedTo config host before slice (Again paused) = IsPausedAgain config host before slice paused
  HasTurnedTo config host before slice (Done outcome pass) = HasEnded config host before slice outcome pass
