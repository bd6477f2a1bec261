-- Claims of some numbers, one after another.
use Rattle.std.specs.Prelude.{◌≡◌, ℕ, ◌<◌, List, [], ◌∷◌, ◌++◌, length, take, slice_index_or}
use Rattle.slot_words.specs.declared.views.Operation.{Operation}
use Rattle.slot_words.specs.declared.views.Operation.TheVariants.{Claim}
use Rattle.slot_words.specs.Parts.{Parts}
use Rattle.slot_words.specs.Rows.{IsLost}

-- each of these numbers was claimed, and each was held
abbrev pub AreLost : List ℕ → List Operation → Type 0
AreLost ns done = Parts IsLost ns done

-- these numbers were claimed in order until one was won: number n, where this was read
pub record IsWonAlong (ns : List ℕ) (n read : ℕ) (done : List Operation) : Type 0 where
  pub place : ℕ
  pub within : place < length ns
  pub number_is : n ≡ slice_index_or ns place 0
  pub lost : List Operation
  pub are_lost : AreLost (take place ns) lost
  pub done_is : done ≡ lost ++ Claim n read ∷ []
