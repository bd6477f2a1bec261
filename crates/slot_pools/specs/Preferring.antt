-- Which slot a take prefers.
use Rattle.std.specs.Prelude.{◌≡◌, ◌⊎◌, ℕ, List, ◌∷◌, ◌++◌, length}
use Rattle.slot_words.specs.declared.views.Operation.{Operation}
use Rattle.slot_words.specs.declared.views.Operation.TheVariants.{WarmLoad}
use Rattle.slot_words.specs.Trails.{loads_from}
use Rattle.affinity_index.specs.Preference.{IsOwnSeen}
use Rattle.slot_pools.specs.Causes.{HasLostClaim}

-- The take looked, and then won slot n: one that it had seen free and warm for its module, or else the claim of each of these was lost.
pub record PrefersOwn (slots tag n : ℕ) (done : List Operation) : Type 0 where
  pub warm : ℕ
  pub seen : List ℕ
  pub all_seen : length seen ≡ slots
  pub after : List Operation
  pub done_is : done ≡ (WarmLoad warm ∷ loads_from 0 seen) ++ after
  pub own : IsOwnSeen tag seen n ⊎ ((m : ℕ) → IsOwnSeen tag seen m → HasLostClaim m after)
