-- The slots of an instance, and what lies in them.
use Rattle.std.specs.Prelude.{◌≡◌, ℕ, [], Option, Some, None}
use Rattle.slot_words.specs.declared.leases.Lease.{Lease}
use Rattle.slot_words.specs.Leases.{lease_number, lease_word}
use Rattle.pool_model.specs.Contents.{Named, MemoryContents, TableContents}
use Rattle.instance_slots.specs.Tickets.{TicketView}

-- a slot that was taken: its number, the word that its claim read, and the module that its contents belong to
pub record Slot : Type 0 where
  pub number : ℕ
  pub word : ℕ
  pub owner : Option Named

-- the slots of an instance; of a kind that its module doesn't need there is none
abbrev pub ticket_slot : Lease TicketView → Slot
ticket_slot l = record { number = lease_number l; word = lease_word l; owner = None }

abbrev pub memory_slot : Option (Lease MemoryContents) → Option Slot
memory_slot None = None
memory_slot (Some l) = Some (record { number = lease_number l; word = lease_word l; owner = l.value.holds })

abbrev pub table_slot : Option (Lease TableContents) → Option Slot
table_slot None = None
table_slot (Some l) = Some (record { number = lease_number l; word = lease_word l; owner = l.value.holds })

-- the slot's contents belong to the module
abbrev pub BelongsTo : Named → Option Slot → Type 0
BelongsTo m None = Unit {0}
BelongsTo m (Some s) = s.owner ≡ Some m

-- what lies in them; where there is none, nothing
abbrev pub memory_in : Option (Lease MemoryContents) → MemoryContents
memory_in None = record { bytes = []; pages = 0; marks = []; holds = None }
memory_in (Some l) = l.value

abbrev pub table_in : Option (Lease TableContents) → TableContents
table_in None = record { entries = []; holds = None }
table_in (Some l) = l.value
