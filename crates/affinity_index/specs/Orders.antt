-- In which order the slots that a scan saw are claimed.
use Rattle.std.specs.Prelude.{◌≡◌, ◌⊎◌, ℕ, ◌+◌, ◌-◌, ◌*◌, ◌<◌, ◌≤◌, ◌==◌, Bool, cond, Option, Some, None, is_some, unwrap_or, List, length, slice_index_or}
use Rattle.std.specs.List.{count_by}
use Rattle.pool_core.specs.declared.words.State.{State}
use Rattle.pool_core.specs.declared.words.State.TheVariants.{Cold, Warm, Awaiting}
use Rattle.pool_core.specs.declared.words.Target.{Target}
use Rattle.pool_core.specs.declared.words.StateWord.{StateWord}
use Rattle.pool_core.specs.StateWords.{bit, stamp_bound, unpacked}

-- The rank of a slot of this state: first those warm for the tag, the greatest stamp first; then, where the warm slots are at their limit, the other warm ones, the least stamp first, and the cold ones last; else the cold ones before the other warm ones. An awaiting slot has none.
abbrev pub free_rank : ℕ → Bool → Target → State → Option ℕ
free_rank tag full to Cold = Some (cond full (2 * stamp_bound) (stamp_bound))
free_rank tag full to Warm = Some (cond (to.tag == tag) (stamp_bound - 1 - to.stamp) (cond full (stamp_bound) (2 * stamp_bound) + to.stamp))
free_rank tag full to Awaiting = None

-- a held slot has none
abbrev pub rank_of : ℕ → Bool → StateWord → Option ℕ
rank_of tag full w = cond w.held None (free_rank tag full w.target w.target.state)

module _ (seen : List ℕ) (tag : ℕ) (full : Bool) where
  -- the rank of slot n, by the word that was seen
  abbrev pub seen_rank : ℕ → Option ℕ
  seen_rank n = rank_of tag full (unpacked (slice_index_or seen n 1))

  -- the lesser rank comes first, and of equal ranks the lesser number
  abbrev pub Precedes : ℕ → ℕ → Type 0
  Precedes n m = (unwrap_or (seen_rank n) 0 < unwrap_or (seen_rank m) 0) ⊎ ((unwrap_or (seen_rank n) 0 ≡ unwrap_or (seen_rank m) 0) × (n ≤ m))

  -- each slot that was seen free and not awaiting, once, and in order
  pub record IsOrder (order : List ℕ) : Type 0 where
    pub once : (n : ℕ) → count_by (λ m. m == n) order ≡ bit (is_some (seen_rank n))
    pub ranked : (j k : ℕ) → j < k → k < length order → Precedes (slice_index_or order j 0) (slice_index_or order k 0)
