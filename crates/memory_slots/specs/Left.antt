-- Memories as calls left them.
use Rattle.std.specs.Prelude.{Option, Some, None}
use Rattle.slot_words.specs.declared.leases.Lease.{Lease}
use Rattle.pool_model.specs.Contents.{MemoryContents}
use Rattle.memory_slots.specs.declared.left.LeftMemory.{LeftMemory}

module _ {N : Type 0} where
  -- the lease of the slot, with the contents as the call left them
  abbrev pub lease_in : LeftMemory N → Lease MemoryContents
  lease_in left = left.lease

  -- that of an instance, which has a memory or none
  abbrev pub lease_left : Option (LeftMemory N) → Option (Lease MemoryContents)
  lease_left None = None
  lease_left (Some left) = Some (lease_in left)
