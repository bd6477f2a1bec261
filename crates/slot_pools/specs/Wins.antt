-- Which claims a take makes.
use Rattle.std.specs.Prelude.{◌≡◌, ◌⊎◌, ℕ, Bool, true, false, List, [], ◌∷◌}
use Rattle.std.specs.List.{range_with_len}
use Rattle.slot_words.specs.declared.views.Operation.{Operation}
use Rattle.slot_words.specs.declared.views.Operation.TheVariants.{AwaitLoad}
use Rattle.slot_words.specs.Parts.{Then}
use Rattle.decommit_batch.specs.Flush.{IsFlush}
use Rattle.slot_pools.specs.declared.policy.Policy.{Policy}
use Rattle.slot_pools.specs.declared.policy.Policy.TheVariants.{Batched, Affine, Any}
use Rattle.slot_pools.specs.Rows.{IsWonAlong, AreLost}

-- 0, 1, .. up to the last slot
abbrev pub all_numbers : ℕ → List ℕ
all_numbers slots = range_with_len 0 slots

-- The await word is read: the flush mark.
abbrev pub IsMark : List Operation → Type 0
IsMark done = (r : ℕ) × (done ≡ AwaitLoad r ∷ [])

-- where slots may await, a flush comes before the last claims
abbrev pub flushes_last : Policy → Bool
flushes_last (Batched tag) = true
flushes_last (Affine tag) = false
flushes_last Any = false

-- the last claims, before which comes, where slots may await, the flush mark and a flush
abbrev pub IsLastTry : Policy → (limit slots : ℕ) → (Claims : List Operation → Type 0) → List Operation → Type 0
IsLastTry (Batched tag) limit slots Claims = Then IsMark (Then (IsFlush limit slots) Claims)
IsLastTry (Affine tag) limit slots Claims = Claims
IsLastTry Any limit slots Claims = Claims

-- Slot n is won, where this was read: along the order, or else by the last claims, along all numbers.
abbrev pub IsWin : Policy → (limit slots : ℕ) → (order : List ℕ) → (n read : ℕ) → List Operation → Type 0
IsWin policy limit slots order n read done = IsWonAlong order n read done ⊎ Then (AreLost order) (IsLastTry policy limit slots (IsWonAlong (all_numbers slots) n read)) done

-- nothing is won, neither along the order nor by the last claims, along all numbers
abbrev pub IsLoss : Policy → (limit slots : ℕ) → (order : List ℕ) → List Operation → Type 0
IsLoss policy limit slots order done = Then (AreLost order) (IsLastTry policy limit slots (AreLost (all_numbers slots))) done
