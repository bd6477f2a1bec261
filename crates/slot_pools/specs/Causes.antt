-- Why a take won nothing.
use Rattle.std.specs.Prelude.{◌≡◌, ℕ, ◌<◌, Option, Some, None, List, [], ◌∷◌, ◌++◌, length, slice_index_or}
use Rattle.atomic_table.specs.Table.{State as TableState}
use Rattle.pool_core.specs.declared.words.State.{State}
use Rattle.slot_words.specs.declared.views.PassView.{PassView}
use Rattle.slot_words.specs.declared.views.Bounds.{Bounds}
use Rattle.slot_words.specs.declared.views.Operation.{Operation}
use Rattle.slot_words.specs.declared.views.Operation.TheVariants.{Claim, AwaitLoad}
use Rattle.slot_words.specs.Shows.{ShowsLawful, shown_seat}
use Rattle.slot_words.specs.Parts.{Then}
use Rattle.slot_words.specs.Rows.{IsLost}
use Rattle.slot_pools.specs.Looks.{IsLook, IsScan}

-- among these operations is a claim of number n that read a held word
pub record HasLostClaim (n : ℕ) (done : List Operation) : Type 0 where
  pub before : List Operation
  pub claim : List Operation
  pub after : List Operation
  pub lost : IsLost n claim
  pub done_is : done ≡ before ++ (claim ++ after)

-- each slot was claimed, and found held
abbrev pub AllFoundHeld : ℕ → List Operation → Type 0
AllFoundHeld slots done = (n : ℕ) → n < slots → HasLostClaim n done

-- the last of these operations is the flush mark
abbrev pub EndsWithMark : List Operation → Type 0
EndsWithMark done = (before : List Operation) × (r : ℕ) × (done ≡ before ++ AwaitLoad r ∷ [])

-- after its flush mark each slot was found held
abbrev pub FullAfterMark : ℕ → List Operation → Type 0
FullAfterMark slots done = Then EndsWithMark (AllFoundHeld slots) done

-- after its look each slot was found held
abbrev pub FullAfterLook : ℕ → ℕ → ℕ → List Operation → Type 0
FullAfterLook limit slots tag done = Then (λ first. (order : List ℕ) × IsLook limit slots tag order first) (AllFoundHeld slots) done

-- after its scan each slot was found held
abbrev pub FullAfterScan : ℕ → List Operation → Type 0
FullAfterScan slots done = Then (λ first. (order : List ℕ) × IsScan slots order first) (AllFoundHeld slots) done

module _ {V : Type 0} (fits : State → ℕ → V → Type 0) where
  -- Whatever passes share: where the claim of a slot is lost by a pass that holds nothing, another pass holds that slot.
  abbrev pub LostToAnother : Type 0
  LostToAnother = (bounds : Bounds) (s : TableState (Option V) PassView) → ShowsLawful fits bounds s
      → (n i : ℕ) → n < length s.homes → IsLost n (Claim n (slice_index_or s.words n 0) ∷ []) → (shown_seat s.views i).holds ≡ None
      → (j : ℕ) × ¬ (j ≡ i) × ((shown_seat s.views j).holds ≡ Some n)
