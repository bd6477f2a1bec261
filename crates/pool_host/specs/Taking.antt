-- The slots of a call, between their takes and their gives.
use Rattle.std.specs.Prelude.{Option, Some}
use Rattle.slot_words.specs.Owned.{slots_of}
use Rattle.pool_limits.specs.declared.numbers.Numbers.{Numbers}
use Rattle.pool_model.specs.Contents.{Named}
use Rattle.pool_model.specs.declared.kinds.Kind.TheVariants as kind
use Rattle.instance_calls.specs.declared.instance.Instance.{Instance}
use Rattle.instance_calls.specs.Parts.{BelongsTo, Slot, memory_slot, table_slot, ticket_slot}
use Rattle.pool_host.specs.declared.host.Host.{Host}
use Rattle.pool_host.specs.declared.passes.Passes.{Passes}
use Rattle.pool_host.specs.Kinds.{GaveSlot, TookSlot}
use Rattle.pool_host.specs.Leases.{HoldsSlot}

module _ {N : Type 0} where
  -- the passes have the slots of an instance, whose contents belong to the module
  pub record HaveSlots (host : Host N) (m : Named) (p : Passes N) (x : Instance N) : Type 0 where
    pub ticket : HoldsSlot (slots_of host.tickets) p.ticket (Some (ticket_slot x.ticket))
    pub memory : HoldsSlot (slots_of host.memories) p.memory (memory_slot x.memory)
    pub table : HoldsSlot (slots_of host.tables) p.table (table_slot x.table)
    pub memory_belongs : BelongsTo m (memory_slot x.memory)
    pub table_belongs : BelongsTo m (table_slot x.table)

  -- the trails grew by the takes of these slots
  pub record TookThose (host : Host N) (m : Named) (before after : Passes N) (of_tickets : Slot) (of_memories of_tables : Option Slot) : Type 0 where
    pub ticket : TookSlot kind.Instance host.tickets m before.ticket after.ticket (Some of_tickets)
    pub memory : TookSlot kind.Memory host.memories m before.memory after.memory of_memories
    pub table : TookSlot kind.Table host.tables m before.table after.table of_tables

  -- and by their gives
  pub record GaveThose (config : Numbers) (host : Host N) (m : Named) (before after : Passes N) (of_tickets : Slot) (of_memories of_tables : Option Slot) : Type 0 where
    pub ticket : GaveSlot kind.Instance host.tickets m config.batch before.ticket after.ticket (Some of_tickets)
    pub memory : GaveSlot kind.Memory host.memories m config.batch before.memory after.memory of_memories
    pub table : GaveSlot kind.Table host.tables m config.batch before.table after.table of_tables

  -- those of an instance
  abbrev pub TookSlots : Numbers → Host N → Named → (before after : Passes N) → Instance N → Type 0
  TookSlots config host m before after x = TookThose host m before after (ticket_slot x.ticket) (memory_slot x.memory) (table_slot x.table)

  abbrev pub GaveSlots : Numbers → Host N → Named → (before after : Passes N) → Instance N → Type 0
  GaveSlots config host m before after x = GaveThose config host m before after (ticket_slot x.ticket) (memory_slot x.memory) (table_slot x.table)
