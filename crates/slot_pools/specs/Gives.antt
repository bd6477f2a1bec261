-- What a give does, by what it reads.
use Rattle.std.specs.Prelude.{◌≡◌, ℕ, ◌%◌, ltb, MatchBool, List, [], ◌∷◌}
use Rattle.pool_core.specs.declared.words.State.TheVariants.{Warm}
use Rattle.pool_core.specs.StateWords.{cold_word, free_word, packed, stamp_bound}
use Rattle.slot_words.specs.declared.leases.Lease.{Lease}
use Rattle.slot_words.specs.declared.words.Words.{Words}
use Rattle.slot_words.specs.declared.views.Operation.{Operation}
use Rattle.slot_words.specs.declared.views.Operation.TheVariants.{WarmUp, WarmDown, Stamp, Release}
use Rattle.slot_words.specs.Leases.{lease_number}
use Rattle.slot_words.specs.Owned.{limit_of}
use Rattle.slot_words.specs.Parts.{Grew}
use Rattle.slot_words.specs.Passes.{Pass, trail}

-- With a permit the slot is stamped and released warm for this tag; without one the refusal is given back, and it is released cold.
abbrev pub IsWarmGive : ℕ → ℕ → ℕ → List Operation → Type 0
IsWarmGive limit n tag done = (r : ℕ) × MatchBool (ltb r limit)
    ((s : ℕ) × (done ≡ WarmUp r ∷ Stamp s ∷ Release n (packed (free_word (record { state = Warm; tag = tag; stamp = s % stamp_bound }))) ∷ []))
    ((d : ℕ) × (done ≡ WarmUp r ∷ WarmDown d ∷ Release n (packed cold_word) ∷ []))

-- the slot is released cold
abbrev pub IsColdGive : ℕ → List Operation → Type 0
IsColdGive n done = done ≡ Release n (packed cold_word) ∷ []

module _ {V : Type 0} where
  -- between these two moments the pass gave the slot of this lease back: under this tag where there was a permit, and else cold
  abbrev pub GivesWarm : {I : Type 0} → Words V I → (tag : ℕ) → Lease V → (old new : Pass V) → Type 0
  GivesWarm words tag lease old new = Grew (IsWarmGive (limit_of words) (lease_number lease) tag) (trail old) (trail new)

  -- or cold, whatever it was
  abbrev pub GivesCold : Lease V → (old new : Pass V) → Type 0
  GivesCold lease old new = Grew (IsColdGive (lease_number lease)) (trail old) (trail new)
