-- Claims along the order of what was read.
use Rattle.std.specs.Prelude.{◌≡◌, ℕ, List, ◌∷◌, leb}
use Rattle.slot_words.specs.declared.leases.Lease.{Lease}
use Rattle.slot_words.specs.declared.words.Words.{Words}
use Rattle.slot_words.specs.declared.views.Operation.{Operation}
use Rattle.slot_words.specs.declared.views.Operation.TheVariants.{WarmLoad}
use Rattle.slot_words.specs.Leases.{lease_number, lease_word}
use Rattle.slot_words.specs.Owned.{slots_of, limit_of}
use Rattle.slot_words.specs.Parts.{Then}
use Rattle.slot_words.specs.Trails.{loads_from}
use Rattle.affinity_index.specs.Orders.{IsOrder}
use Rattle.affinity_index.specs.Unheld.{unheld}
use Rattle.decommit_batch.specs.Flush.{IsFlush}
use Rattle.slot_pools.specs.declared.policy.Policy.{Policy}
use Rattle.slot_pools.specs.declared.policy.Policy.TheVariants.{Batched, Affine, Any}
use Rattle.slot_pools.specs.Rows.{IsWonAlong}
use Rattle.slot_pools.specs.Wins.{all_numbers, IsMark, IsLastTry, IsWin, IsLoss}

-- what a take of this policy reads: the warm word, where it looks, and the words of the slots
abbrev pub reads : Policy → (warm : ℕ) → (seen : List ℕ) → List Operation
reads (Batched tag) warm seen = WarmLoad warm ∷ loads_from 0 seen
reads (Affine tag) warm seen = WarmLoad warm ∷ loads_from 0 seen
reads Any warm seen = loads_from 0 seen

-- the order that this gives
abbrev pub IsOrderBy : Policy → (limit warm : ℕ) → (seen order : List ℕ) → Type 0
IsOrderBy (Batched tag) limit warm seen order = IsOrder seen tag (leb limit warm) order
IsOrderBy (Affine tag) limit warm seen order = IsOrder seen tag (leb limit warm) order
IsOrderBy Any limit warm seen order = order ≡ unheld seen

module _ {V : Type 0} where
  -- the slot of this lease is won along these numbers
  abbrev pub WinsAlong : Lease V → List ℕ → List Operation → Type 0
  WinsAlong l ns = IsWonAlong ns (lease_number l) (lease_word l)

module _ {V I : Type 0} (words : Words V I) where
  -- claims of this kind along the order for the module of this tag, by the warm word and the words of the slots that the look read
  abbrev pub AlongOrder : ℕ → ℕ → List ℕ → (List ℕ → List Operation → Type 0) → List Operation → Type 0
  AlongOrder tag warm seen Claims done = (order : List ℕ) × IsOrder seen tag (leb (limit_of words) warm) order × Claims order done

  -- the flush mark, a flush, and then claims of this kind along all numbers
  abbrev pub AfterFlush : (List ℕ → List Operation → Type 0) → List Operation → Type 0
  AfterFlush Claims = Then IsMark (Then (IsFlush (limit_of words) (slots_of words)) (Claims (all_numbers (slots_of words))))

  module _ (policy : Policy) where
    -- claims of this kind along the order that a take of this policy has by what it read
    abbrev pub AlongSeen : ℕ → List ℕ → (List ℕ → List Operation → Type 0) → List Operation → Type 0
    AlongSeen warm seen Claims done = (order : List ℕ) × IsOrderBy policy (limit_of words) warm seen order × Claims order done

    -- its last claims, of this kind, along all numbers
    abbrev pub LastTry : (List ℕ → List Operation → Type 0) → List Operation → Type 0
    LastTry Claims = IsLastTry policy (limit_of words) (slots_of words) (Claims (all_numbers (slots_of words)))

    -- the slot of this lease is won along these numbers, or else by the last claims
    abbrev pub WinsBy : Lease V → List ℕ → List Operation → Type 0
    WinsBy l ns = IsWin policy (limit_of words) (slots_of words) ns (lease_number l) (lease_word l)

    -- none is won, neither along these numbers nor by the last claims
    abbrev pub LosesBy : List ℕ → List Operation → Type 0
    LosesBy ns = IsLoss policy (limit_of words) (slots_of words) ns
