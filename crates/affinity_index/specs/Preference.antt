-- Which slots an order prefers.
use Rattle.std.specs.Prelude.{◌≡◌, ◌⊎◌, ℕ, ◌<◌, false, List, length, slice_index_or}
use Rattle.pool_core.specs.declared.words.State.TheVariants.{Warm}
use Rattle.pool_core.specs.declared.words.StateWord.{StateWord}
use Rattle.pool_core.specs.StateWords.{unpacked}

-- the word says of its slot that it is not held, and warm for this tag
pub record IsOwnWarm (tag : ℕ) (w : StateWord) : Type 0 where
  pub free : w.held ≡ false
  pub warm : w.target.state ≡ Warm
  pub tag_is : w.target.tag ≡ tag

-- the word of the slot at this place of the order, as it was seen
abbrev pub word_seen_at : List ℕ → List ℕ → ℕ → StateWord
word_seen_at seen order k = unpacked (slice_index_or seen (slice_index_or order k 0) 1)

-- whatever stands in the order before a slot that is warm for this tag is warm for it too
abbrev pub OwnComeFirst : ℕ → List ℕ → List ℕ → Type 0
OwnComeFirst tag seen order = (j k : ℕ) → j < k → k < length order → IsOwnWarm tag (word_seen_at seen order k) → IsOwnWarm tag (word_seen_at seen order j)

-- the slot was seen free and warm for this tag
abbrev pub IsOwnSeen : ℕ → List ℕ → ℕ → Type 0
IsOwnSeen tag seen n = IsOwnWarm tag (unpacked (slice_index_or seen n 1))

-- each such slot stands in the order
abbrev pub OwnAreListed : ℕ → List ℕ → List ℕ → Type 0
OwnAreListed tag seen order = (m : ℕ) → IsOwnSeen tag seen m → (k : ℕ) × (k < length order) × (slice_index_or order k 0 ≡ m)

-- and at each place stands one of them, or they all stand before it
abbrev pub OwnOrAllBefore : ℕ → List ℕ → List ℕ → Type 0
OwnOrAllBefore tag seen order = (j : ℕ) → j < length order
    → IsOwnSeen tag seen (slice_index_or order j 0) ⊎ ((m : ℕ) → IsOwnSeen tag seen m → (k : ℕ) × (k < j) × (slice_index_or order k 0 ≡ m))
