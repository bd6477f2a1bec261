-- Why a call takes no slots, and how it is answered then.
use Rattle.std.specs.Prelude.{◌≡◌, ℕ, List}
use Rattle.wasm_values.specs.declared.outcome.Val.{Val}
use Rattle.module_store.specs.declared.naming.Naming.{Ghosts}
use Rattle.pool_limits.specs.declared.numbers.Numbers.{Numbers}
use Rattle.pool_model.specs.Contents.{Named}
use Rattle.instance_calls.specs.CallWords.{LacksExport, LacksTypes, MayCall}
use Rattle.pool_host.specs.declared.answers.Answer.{Answer}
use Rattle.pool_host.specs.declared.answers.Answer.TheVariants as answer
use Rattle.pool_host.specs.declared.host.Host.{Host}
use Rattle.pool_host.specs.declared.passes.HostPass.{HostPass}
use Rattle.pool_host.specs.declared.passes.Passes.{Passes}
use Rattle.pool_host.specs.declared.answers.Begun.{Begun}
use Rattle.pool_host.specs.declared.answers.Begun.TheVariants as begun
use Rattle.pool_host.specs.declared.refusals.Refused.{Refused}
use Rattle.pool_host.specs.declared.refusals.Refused.TheVariants.{BadArgs, Full, NoExport, Retired}
use Rattle.pool_host.specs.Trails.{AddsTrails, HasCause}

-- why it was refused, and what its passes did: nothing, but where a kind was full
abbrev pub HasRefused : {N : Type 0} → Numbers → Host N → (m : Named) → (export : List ℕ) → (args : List Val) → (before after : Passes N) → Refused → Type 0
HasRefused config host m export args before after NoExport = LacksExport m.tree export × (after ≡ before)
HasRefused config host m export args before after BadArgs = LacksTypes m.tree export args × (after ≡ before)
HasRefused config host m export args before after Retired = ((function : ℕ) × MayCall m.tree export function args) × (after ≡ before)
HasRefused config host m export args before after (Full kind) = ((function : ℕ) × MayCall m.tree export function args) × AddsTrails config host m (answer.Full kind) before after × HasCause config host m before after kind

-- its answer
abbrev pub refused_answer : Refused → Answer
refused_answer NoExport = answer.NoExport
refused_answer BadArgs = answer.BadArgs
refused_answer Retired = answer.Retired
refused_answer (Full kind) = answer.Full kind

-- how it began, where it was to be paused
abbrev pub refused_begun : {N : Type 0} {G : Ghosts N} → Refused → HostPass N G → Begun N G
refused_begun NoExport pass = begun.NoExport pass
refused_begun BadArgs pass = begun.BadArgs pass
refused_begun Retired pass = begun.Retired pass
refused_begun (Full kind) pass = begun.Full pass kind
