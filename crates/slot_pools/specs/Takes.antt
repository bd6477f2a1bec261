-- What a take does, by what it reads. What is won gives back its permit or its mark.
use Rattle.std.specs.Prelude.{◌≡◌, ℕ, ◌+◌, Bool, List}
use Rattle.pool_core.specs.StateWords.{bit}
use Rattle.slot_words.specs.declared.leases.Lease.{Lease}
use Rattle.slot_words.specs.declared.words.Words.{Words}
use Rattle.slot_words.specs.declared.views.Operation.{Operation}
use Rattle.slot_words.specs.Leases.{lease_number, lease_word}
use Rattle.slot_words.specs.Owned.{limit_of, slots_of}
use Rattle.slot_words.specs.Parts.{Grew, Then}
use Rattle.slot_words.specs.Passes.{Pass, IsIdle, trail}
use Rattle.decommit_batch.specs.Counts.{flushes_in}
use Rattle.decommit_batch.specs.Settle.{IsSettled}
use Rattle.slot_pools.specs.declared.policy.Policy.{Policy}
use Rattle.slot_pools.specs.Looks.{IsReading}
use Rattle.slot_pools.specs.Wins.{IsWin, IsLoss}

-- a take of this policy that won slot n, where this was read
abbrev pub IsTake : Policy → (limit slots n read : ℕ) → List Operation → Type 0
IsTake policy limit slots n read done = (order : List ℕ) × Then (IsReading policy limit slots order) (Then (IsWin policy limit slots order n read) (IsSettled read)) done

-- one that won nothing
abbrev pub IsFullTake : Policy → (limit slots : ℕ) → List Operation → Type 0
IsFullTake policy limit slots done = (order : List ℕ) × Then (IsReading policy limit slots order) (IsLoss policy limit slots order) done

-- The same of a pass between two moments. Where it won nothing, it is full that it meets, and it holds nothing.
module _ {V I : Type 0} (words : Words V I) (policy : Policy) where
  -- it took the slot of this lease
  abbrev pub Takes : (old new : Pass V) → Lease V → Type 0
  Takes old new lease = Grew (IsTake policy (limit_of words) (slots_of words) (lease_number lease) (lease_word lease)) (trail old) (trail new)

  -- it won none
  abbrev pub MeetsFull : (old new : Pass V) → Type 0
  MeetsFull old new = IsIdle new × Grew (IsFullTake policy (limit_of words) (slots_of words)) (trail old) (trail new)

-- between two moments the pass flushed once, or not, as this says
abbrev pub FlushedAs : {V : Type 0} → Bool → (old new : Pass V) → Type 0
FlushedAs flushed old new = (batch : ℕ) → flushes_in batch (trail new) ≡ flushes_in batch (trail old) + bit flushed
