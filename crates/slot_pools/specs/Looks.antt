-- What a take reads before it claims, and in which order it then claims.
use Rattle.std.specs.Prelude.{◌≡◌, ℕ, ◌≤◌, leb, List, ◌∷◌, length}
use Rattle.std.specs.List.{All}
use Rattle.pool_core.specs.declared.limits.TheConstants.{MOST_SLOTS}
use Rattle.pool_core.specs.declared.words.StateWord.{StateWord}
use Rattle.pool_core.specs.StateWords.{IsWordOf}
use Rattle.slot_words.specs.declared.views.Operation.{Operation}
use Rattle.slot_words.specs.declared.views.Operation.TheVariants.{WarmLoad}
use Rattle.slot_words.specs.Trails.{loads_from}
use Rattle.affinity_index.specs.Orders.{IsOrder}
use Rattle.affinity_index.specs.Unheld.{unheld}
use Rattle.slot_pools.specs.declared.policy.Policy.{Policy}
use Rattle.slot_pools.specs.declared.policy.Policy.TheVariants.{Batched, Affine, Any}

-- The warm word is read, and then each slot's word. By both the order is that of the module of this tag.
pub record IsLook (limit slots tag : ℕ) (order : List ℕ) (done : List Operation) : Type 0 where
  pub warm : ℕ
  pub seen : List ℕ
  pub all_seen : length seen ≡ slots
  pub order_is : IsOrder seen tag (leb limit warm) order
  pub done_is : done ≡ WarmLoad warm ∷ loads_from 0 seen

-- Each slot's word is read. The order has those that nobody held, rising.
pub record IsScan (slots : ℕ) (order : List ℕ) (done : List Operation) : Type 0 where
  pub seen : List ℕ
  pub all_seen : length seen ≡ slots
  pub order_is : order ≡ unheld seen
  pub done_is : done ≡ loads_from 0 seen

-- what a take of this policy reads, which gives this order
abbrev pub IsReading : Policy → (limit slots : ℕ) → (order : List ℕ) → List Operation → Type 0
IsReading (Batched tag) limit slots = IsLook limit slots tag
IsReading (Affine tag) limit slots = IsLook limit slots tag
IsReading Any limit slots = IsScan slots

-- these are state words, one for each slot
pub record AreWords (slots : ℕ) (seen : List ℕ) : Type 0 where
  pub all_seen : length seen ≡ slots
  pub few : length seen ≤ MOST_SLOTS
  pub words : All (λ r. (w : StateWord) × IsWordOf r w) seen
