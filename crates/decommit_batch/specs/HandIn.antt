-- What a hand-in does, by what it reads.
use Rattle.std.specs.Prelude.{◌≡◌, ℕ, ◌-◌, ◌%◌, leb, MatchBool, List, [], ◌∷◌}
use Rattle.pool_core.specs.declared.words.State.TheVariants.{Awaiting}
use Rattle.pool_core.specs.StateWords.{free_word, packed, stamp_bound}
use Rattle.slot_words.specs.declared.leases.Lease.{Lease}
use Rattle.slot_words.specs.declared.words.Words.{Words}
use Rattle.slot_words.specs.declared.views.Operation.{Operation}
use Rattle.slot_words.specs.declared.views.Operation.TheVariants.{Release, Stamp, AwaitUp}
use Rattle.slot_words.specs.Leases.{lease_number}
use Rattle.slot_words.specs.Owned.{limit_of, slots_of}
use Rattle.slot_words.specs.Parts.{Grew}
use Rattle.slot_words.specs.Passes.{Pass, trail}
use Rattle.decommit_batch.specs.Flush.{IsFlush}

-- after it was counted: the slot is stamped and released, and then this follows
abbrev pub handed_in : ℕ → ℕ → ℕ → List Operation → List Operation
handed_in n tag s flushed = Stamp s ∷ Release n (packed (free_word (record { state = Awaiting; tag = tag; stamp = s % stamp_bound }))) ∷ flushed

-- The slot is counted as awaiting, stamped and released. Where the count read was at least one less than a batch, a flush follows.
abbrev pub IsHandIn : ℕ → ℕ → ℕ → ℕ → ℕ → List Operation → Type 0
IsHandIn limit slots n tag batch done = (a : ℕ) × (s : ℕ) × (flushed : List Operation) × (done ≡ AwaitUp a ∷ handed_in n tag s flushed)
    × MatchBool (leb (batch - 1) a) (IsFlush limit slots flushed) (flushed ≡ [])

module _ {V I : Type 0} (words : Words V I) where
  -- between these two moments the pass handed in the slot of this lease: under this tag, in batches of so many
  abbrev pub HandsIn : (tag batch : ℕ) → Lease V → (old new : Pass V) → Type 0
  HandsIn tag batch lease old new = Grew (IsHandIn (limit_of words) (slots_of words) (lease_number lease) tag batch) (trail old) (trail new)

-- in batches of so many: where a hand-in reads this count, nothing follows
abbrev pub WaitsAt : (batch count : ℕ) → Type 0
WaitsAt batch count = (limit slots n tag s : ℕ) (flushed : List Operation)
    → IsHandIn limit slots n tag batch (AwaitUp count ∷ handed_in n tag s flushed) → flushed ≡ []

-- and where it reads this count, a flush follows
abbrev pub FlushesAt : (batch count : ℕ) → Type 0
FlushesAt batch count = (limit slots n tag s : ℕ) (flushed : List Operation)
    → IsHandIn limit slots n tag batch (AwaitUp count ∷ handed_in n tag s flushed) → IsFlush limit slots flushed
