-- What the trail of a pass tells of its takes of memories.
use Rattle.std.specs.Prelude.{◌≡◌, ℕ, ◌+◌, ◌-◌, ◌%◌, ◌^◌, ◌≤◌, Bool, false, cond, is_some, List}
use Rattle.pool_core.specs.StateWords.{bit, unpacked}
use Rattle.slot_words.specs.declared.views.Operation.{Operation}
use Rattle.slot_words.specs.Passes.{Pass, trail}
use Rattle.decommit_batch.specs.Counts.{claimed_in, cold_in, counted_in, flushes_in, looks_in, warm_in}
use Rattle.memory_counts.specs.declared.tally.MemoryTally.{MemoryTally}
use Rattle.memory_counts.specs.declared.tally.TakeCounts.{TakeCounts}

-- the memories that were given back
abbrev pub given_in : List Operation → ℕ
given_in done = warm_in done + cold_in done

-- The takes and gives of a pass that holds nothing, each modulo 2^64. A take that won nothing is one that no give follows.
pub record AreTakes {V : Type 0} (batch : ℕ) (p : Pass V) (counts : TakeCounts) : Type 0 where
  pub warm_are : counts.warm ≡ warm_in (trail p) % 2 ^ 64
  pub cold_are : counts.cold ≡ cold_in (trail p) % 2 ^ 64
  pub flushes_are : counts.flushes ≡ flushes_in batch (trail p) % 2 ^ 64
  pub full_are : counts.full ≡ (looks_in (trail p) - given_in (trail p)) % 2 ^ 64

module _ {V : Type 0} where
  abbrev pub is_holding : Pass V → Bool
  is_holding p = is_some p.me.0.seat.holds

  -- what the claim of the slot that it holds read, and 0 without one
  abbrev pub claimed_word : Pass V → ℕ
  claimed_word p = cond (is_holding p) (claimed_in 0 (trail p)) 0

  -- the tally counts what the pass did, also while it holds a memory
  pub record IsCounted (batch : ℕ) (p : Pass V) (t : MemoryTally) : Type 0 where
    pub warm_are : t.counts.warm ≡ warm_in (trail p) % 2 ^ 64
    pub cold_are : t.counts.cold ≡ cold_in (trail p) % 2 ^ 64
    pub flushes_are : t.counts.flushes ≡ flushes_in batch (trail p) % 2 ^ 64
    pub full_are : t.counts.full ≡ (looks_in (trail p) - (given_in (trail p) + bit (is_holding p))) % 2 ^ 64
    pub begun : given_in (trail p) + bit (is_holding p) ≤ looks_in (trail p)
    pub claimed_is : t.claimed ≡ (unpacked (claimed_word p)).target
    pub none_up : counted_in false (trail p) ≡ false
