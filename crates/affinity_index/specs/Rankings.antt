-- Slots with their ranks.
use Rattle.std.specs.Prelude.{◌≡◌, ◌≢◌, ◌⊎◌, ℕ, ◌*◌, ◌/◌, ◌%◌, ◌<◌, ◌≤◌, ◌==◌, ◌||◌, ◌&&◌, Bool, false, Option, Some, None, List, MatchOption, leb, ltb, cond, slice_index_or, unwrap_or}
use Rattle.affinity_index.specs.declared.ranks.Ranked.{Ranked}
use Rattle.affinity_index.specs.declared.ranks.TheConstants.{NO_RANK}
use Rattle.pool_core.specs.StateWords.{stamp_bound, unpacked}
use Rattle.affinity_index.specs.Orders.{rank_of, seen_rank}

abbrev pub number_of : Ranked → ℕ
number_of e = e.number

abbrev pub is_of : ℕ → Ranked → Bool
is_of n e = e.number == n

-- the slot, where it has a rank
abbrev pub if_ranked : Ranked → Option Ranked
if_ranked e = cond (e.rank == NO_RANK) None (Some e)

-- the slot of this number, where NO_RANK stands for none
abbrev pub ranked_or_none : Option ℕ → ℕ → Ranked
ranked_or_none o n = record { rank = unwrap_or o NO_RANK; number = n }

-- the second where it has a lesser rank
abbrev pub earlier_of : Ranked → Ranked → Ranked
earlier_of least e = cond (ltb e.rank least.rank) e least

-- the rank of a cold slot
abbrev pub cold_rank : Bool → ℕ
cold_rank full = cond full (2 * stamp_bound) (stamp_bound)

-- the rank of a slot of this word, if the word has the bit of a warm state
abbrev pub warm_rank : ℕ → Bool → ℕ → Option ℕ
warm_rank tag full word = cond (word / 2 % 2 == 1) (rank_of tag full (unpacked word)) None

-- the same of each slot that was seen
abbrev pub seen_warm : List ℕ → ℕ → Bool → ℕ → Option ℕ
seen_warm seen tag full n = warm_rank tag full (slice_index_or seen n 1)

-- there is such a slot, and it is claimed before a cold one
abbrev pub is_before_cold : Bool → Option Ranked → Bool
is_before_cold full None = false
is_before_cold full (Some e) = ltb e.rank (cold_rank full)

-- none of the slots below k was seen cold and free
abbrev pub IsNoColdBelow : List ℕ → ℕ → Type 0
IsNoColdBelow seen k = (m : ℕ) → m < k → slice_index_or seen m 1 % 8 ≢ 0

-- the first that was seen cold and free
pub record IsFirstCold (seen : List ℕ) (k n : ℕ) : Type 0 where
  pub within : n < k
  pub cold : slice_index_or seen n 1 % 8 ≡ 0
  pub before : IsNoColdBelow seen n

-- the first where it has no greater rank
abbrev pub lesser_of : Option Ranked → Ranked → Ranked
lesser_of None e = e
lesser_of (Some a) e = cond (leb a.rank e.rank) a e

-- a slot of this rank and number is claimed behind that one
abbrev pub is_behind : Ranked → ℕ → ℕ → Bool
is_behind e r n = ltb e.rank r || (e.rank == r && ltb e.number n)

-- the rank of slot n, if it is claimed behind the last
abbrev pub behind : Option Ranked → ℕ → Option ℕ → Option ℕ
behind None n o = o
behind (Some e) n None = None
behind (Some e) n (Some r) = cond (is_behind e r n) (Some r) None

-- the rank of each slot that was seen, if it is claimed behind the last
abbrev pub rank_behind : List ℕ → ℕ → Bool → Option Ranked → ℕ → Option ℕ
rank_behind seen tag full last n = behind last n (seen_rank seen tag full n)

module _ (rank_at : ℕ → Option ℕ) where
  -- of the slots below k this one has the least rank, and of equal ranks the least number
  pub record IsLeast (k : ℕ) (e : Ranked) : Type 0 where
    pub within : e.number < k
    pub rank_is : rank_at e.number ≡ Some e.rank
    pub least : (m r : ℕ) → m < k → rank_at m ≡ Some r → (e.rank < r) ⊎ ((e.rank ≡ r) × (e.number ≤ m))

  -- or none of them has a rank
  abbrev pub IsLeastBelow : ℕ → Option Ranked → Type 0
  IsLeastBelow k least = MatchOption least ((m : ℕ) → m < k → rank_at m ≡ None) (IsLeast k)
