-- What settles a slot that was won.
use Rattle.std.specs.Prelude.{◌≡◌, ℕ, List, [], ◌∷◌}
use Rattle.pool_core.specs.declared.words.State.{State}
use Rattle.pool_core.specs.declared.words.State.TheVariants.{Cold, Warm, Awaiting}
use Rattle.pool_core.specs.declared.words.StateWord.{StateWord}
use Rattle.pool_core.specs.StateWords.{IsWordOf}
use Rattle.slot_words.specs.declared.views.Operation.{Operation}
use Rattle.slot_words.specs.declared.views.Operation.TheVariants.{WarmDown, AwaitDown}

abbrev pub IsSettledFrom : State → List Operation → Type 0
IsSettledFrom Cold done = done ≡ []
IsSettledFrom Warm done = (r : ℕ) × (done ≡ WarmDown r ∷ [])
IsSettledFrom Awaiting done = (r : ℕ) × (done ≡ AwaitDown r ∷ [])

-- A slot that was won warm gives its permit back, and one that was won awaiting its mark.
abbrev pub IsSettled : ℕ → List Operation → Type 0
IsSettled read done = (w : StateWord) × IsWordOf read w × IsSettledFrom w.target.state done
