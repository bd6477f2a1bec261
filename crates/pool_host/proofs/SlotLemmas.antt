-- The slots of an instance, from their takes to their gives.
use Rattle.std.proofs.Common.{Option, Some, sym, subst}
use Rattle.wasm_values.specs.declared.outcome.Outcome.{Outcome}
use Rattle.slot_words.specs.declared.leases.Lease.{Lease}
use Rattle.slot_words.specs.Leases.{lease_number, lease_word}
use Rattle.slot_words.specs.Owned.{slots_of}
use Rattle.slot_words.specs.Parts.{Grew}
use Rattle.slot_words.specs.Passes.{trail}
use Rattle.pool_limits.specs.declared.numbers.Numbers.{Numbers}
use Rattle.pool_model.specs.Contents.{Named, TableContents, needs}
use Rattle.pool_model.specs.declared.kinds.Kind.TheVariants as kind
use Rattle.instance_calls.specs.declared.instance.Instance.{Instance}
use Rattle.instance_calls.specs.Instances.{IsFreshInstance, KeepsSlots}
use Rattle.instance_calls.specs.Parts.{BelongsTo, Slot, memory_slot, table_slot}
use Rattle.pool_host.specs.declared.answers.Answer.TheVariants.{Done}
use Rattle.pool_host.specs.declared.host.Host.{Host}
use Rattle.pool_host.specs.declared.passes.Passes.{Passes}
use Rattle.pool_host.specs.Kinds.{IsFullTakeOf, IsGiveOf, IsTakeOf}
use Rattle.pool_host.specs.Leases.{Gave, HoldsSlot}
use Rattle.pool_host.specs.Taking.{GaveSlots, HaveSlots, TookSlots}
use Rattle.pool_host.specs.Trails.{AddsTrails}
use Rattle.pool_host.proofs.VisitLemmas.{memory_slot_some, served, table_slot_some, visited}

module _ {N : Type 0} (config : Numbers) (host : Host N) (m : Named) (x y : Instance N) (keeps : KeepsSlots x y) where
  -- the passes still have the slots of the instance after its run
  pub still_have : (p : Passes N) → HaveSlots host m p x → HaveSlots host m p y
  still_have p have = record {
    ticket = subst (λ (s : Slot). HoldsSlot (slots_of host.tickets) p.ticket (Some s)) (sym keeps.ticket) have.ticket;
    memory = subst (λ (o : Option Slot). HoldsSlot (slots_of host.memories) p.memory o) (sym keeps.memory) have.memory;
    table = subst (λ (o : Option (Lease TableContents)). HoldsSlot (slots_of host.tables) p.table (table_slot o)) (sym keeps.table) have.table;
    memory_belongs = subst (λ (o : Option Slot). BelongsTo m o) (sym keeps.memory) have.memory_belongs;
    table_belongs = subst (λ (o : Option (Lease TableContents)). BelongsTo m (table_slot o)) (sym keeps.table) have.table_belongs;
  }

  -- and what is given then are the slots that were taken
  pub gave_those : (p q : Passes N) → GaveSlots config host m p q y → GaveSlots config host m p q x
  gave_those p q gave = record {
    ticket = subst (λ (s : Slot). Grew (Gave (IsGiveOf kind.Instance host.tickets m config.batch) (Some s)) (trail p.ticket) (trail q.ticket)) keeps.ticket gave.ticket;
    memory = subst (λ (o : Option Slot). Grew (Gave (IsGiveOf kind.Memory host.memories m config.batch) o) (trail p.memory) (trail q.memory)) keeps.memory gave.memory;
    table = subst (λ (o : Option (Lease TableContents)). Grew (Gave (IsGiveOf kind.Table host.tables m config.batch) (table_slot o)) (trail p.table) (trail q.table)) keeps.table gave.table;
  }

module _ {N : Type 0} (config : Numbers) (host : Host N) (m : Named) (x : Instance N) (p q r : Passes N) (fresh : IsFreshInstance config m.tree x)
    (took : TookSlots config host m p q x) (gave : GaveSlots config host m q r x) where
  pub all_served : (outcome : Outcome) → AddsTrails config host m (Done outcome) p r
  all_served outcome = record {
    ticket = served (IsTakeOf kind.Instance host.tickets m) (IsGiveOf kind.Instance host.tickets m config.batch) (IsFullTakeOf kind.Instance host.tickets m) (lease_number x.ticket) (lease_word x.ticket) _ _ _ took.ticket gave.ticket;
    memory = visited (IsTakeOf kind.Memory host.memories m) (IsGiveOf kind.Memory host.memories m config.batch) (IsFullTakeOf kind.Memory host.memories m) (memory_slot x.memory) (needs kind.Memory m.tree) _ _ _ (memory_slot_some x.memory _ fresh.memory.had) took.memory gave.memory;
    table = visited (IsTakeOf kind.Table host.tables m) (IsGiveOf kind.Table host.tables m config.batch) (IsFullTakeOf kind.Table host.tables m) (table_slot x.table) (needs kind.Table m.tree) _ _ _ (table_slot_some x.table _ fresh.table.had) took.table gave.table;
  }
