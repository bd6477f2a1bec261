-- What a call of a module does at the pool of a kind.
use Rattle.std.specs.Prelude.{ℕ, List, Option}
use Rattle.slot_words.specs.declared.views.Operation.{Operation}
use Rattle.slot_words.specs.declared.words.Words.{Words}
use Rattle.slot_words.specs.Owned.{limit_of, passes_of, slots_of}
use Rattle.slot_words.specs.Parts.{Grew}
use Rattle.slot_words.specs.Passes.{Pass, trail}
use Rattle.decommit_batch.specs.HandIn.{IsHandIn}
use Rattle.slot_pools.specs.declared.policy.Policy.{Policy}
use Rattle.slot_pools.specs.declared.policy.Policy.TheVariants.{Batched, Affine, Any}
use Rattle.slot_pools.specs.Gives.{IsColdGive, IsWarmGive}
use Rattle.slot_pools.specs.Takes.{IsTake, IsFullTake}
use Rattle.pool_model.specs.Contents.{Named, needs}
use Rattle.pool_model.specs.declared.kinds.Kind.{Kind}
use Rattle.pool_model.specs.declared.kinds.Kind.TheVariants.{Memory, Table, Instance}
use Rattle.instance_calls.specs.Parts.{Slot}
use Rattle.pool_host.specs.Leases.{Gave, Took}
use Rattle.pool_host.specs.Visits.{Adds, IsTurnedAway, Visit}

-- how a slot of the kind is taken for the module
abbrev pub policy_of : Kind → Named → Policy
policy_of Instance m = Any
policy_of Memory m = Batched m.tag
policy_of Table m = Affine m.tag

module _ {V I : Type 0} where
  -- a take that won this slot, where this was read
  abbrev pub IsTakeOf : Kind → Words V I → Named → (number read : ℕ) → List Operation → Type 0
  IsTakeOf k pool m = IsTake (policy_of k m) (limit_of pool) (slots_of pool)

  -- one that won nothing
  abbrev pub IsFullTakeOf : Kind → Words V I → Named → List Operation → Type 0
  IsFullTakeOf k pool m = IsFullTake (policy_of k m) (limit_of pool) (slots_of pool)

  -- the give of a slot: a memory is handed in, in batches of so many
  abbrev pub IsGiveOf : Kind → Words V I → Named → (batch number : ℕ) → List Operation → Type 0
  IsGiveOf Instance pool m batch number = IsColdGive number
  IsGiveOf Memory pool m batch number = IsHandIn (limit_of pool) (slots_of pool) number m.tag batch
  IsGiveOf Table pool m batch number = IsWarmGive (limit_of pool) number m.tag

  -- the pass's trail grew by this visit
  abbrev pub Visited : Kind → Words V I → Named → (batch : ℕ) → Visit → (before after : Pass V) → Type 0
  Visited k pool m batch visit before after = Grew (Adds (IsTakeOf k pool m) (IsGiveOf k pool m batch) (IsFullTakeOf k pool m) visit) (trail before) (trail after)

  -- by the take of the slot; without a slot by nothing
  abbrev pub TookSlot : Kind → Words V I → Named → (before after : Pass V) → Option Slot → Type 0
  TookSlot k pool m before after slot = Grew (Took (IsTakeOf k pool m) slot) (trail before) (trail after)

  -- by its give
  abbrev pub GaveSlot : Kind → Words V I → Named → (batch : ℕ) → (before after : Pass V) → Option Slot → Type 0
  GaveSlot k pool m batch before after slot = Grew (Gave (IsGiveOf k pool m batch) slot) (trail before) (trail after)

  -- the module needs a slot of the kind, and the take won nothing
  abbrev pub IsTurnedAwayFrom : Kind → Words V I → Named → (before after : Pass V) → Type 0
  IsTurnedAwayFrom k pool m before after = IsTurnedAway (needs k m.tree) (IsFullTakeOf k pool m) (passes_of pool) before after
