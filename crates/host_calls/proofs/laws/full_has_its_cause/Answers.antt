use Rattle.std.proofs.Common.{ℕ, List}
use Rattle.slot_words.specs.declared.views.Operation.{Operation}
use Rattle.slot_words.specs.Owned.{limit_of, slots_of}
use Rattle.slot_words.specs.Passes.{trail}
use Rattle.slot_pools.specs.Causes.{FullAfterLook, FullAfterMark, FullAfterScan}
use Rattle.slot_pools.specs.declared.policy.Policy.TheVariants.{Affine, Any, Batched}
use Rattle.slot_pools.specs.Takes.{IsFullTake}
use Rattle.pool_limits.specs.declared.numbers.Numbers.{Numbers}
use Rattle.pool_model.specs.Contents.{Named}
use Rattle.pool_model.specs.declared.kinds.Kind.{Kind}
use Rattle.pool_model.specs.declared.kinds.Kind.TheVariants.{Memory, Table, Instance}
use Rattle.pool_host.specs.declared.host.Host.{Host}
use Rattle.pool_host.specs.declared.passes.Passes.{Passes}
use Rattle.pool_host.specs.Kinds.{IsFullTakeOf}
use Rattle.pool_host.specs.Preferring.{FoundAllHeld}
use Rattle.pool_host.specs.Trails.{HasCause}
use Rattle.pool_host.proofs.PreferringLemmas.{grew_as}
use Rattle.host_calls.proofs.laws.full_has_its_cause.Goals as goal

module _ (any : (limit slots : ℕ) (done : List Operation) → IsFullTake Any limit slots done → FullAfterScan slots done)
    (batched : (limit slots tag : ℕ) (done : List Operation) → IsFullTake (Batched tag) limit slots done → FullAfterMark slots done)
    (affine : (limit slots tag : ℕ) (done : List Operation) → IsFullTake (Affine tag) limit slots done → FullAfterLook limit slots tag done) where
  found_all_held : {N : Type 0} (config : Numbers) (host : Host N) (m : Named) (k : Kind) (before after : Passes N) → HasCause config host m before after k → FoundAllHeld host m before after k
  found_all_held config host m Instance before after cause =
      let slots : ℕ = slots_of host.tickets in
      grew_as (IsFullTakeOf Instance host.tickets m) (FullAfterScan slots) (trail before.ticket) (trail after.ticket) (any (limit_of host.tickets) slots) cause.full
  found_all_held config host m Memory before after cause =
      let limit : ℕ = limit_of host.memories in
      let slots : ℕ = slots_of host.memories in
      grew_as (IsFullTakeOf Memory host.memories m) (FullAfterMark slots) (trail before.memory) (trail after.memory) (batched limit slots m.tag) cause.full
  found_all_held config host m Table before after cause =
      let limit : ℕ = limit_of host.tables in
      let slots : ℕ = slots_of host.tables in
      grew_as (IsFullTakeOf Table host.tables m) (FullAfterLook limit slots m.tag) (trail before.table) (trail after.table) (affine limit slots m.tag) cause.full

pub returns : goal.returns
returns g c = let e = c.full_has_its_cause.ensures in found_all_held e.any e.batched e.affine
