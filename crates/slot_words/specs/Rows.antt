-- What a claim leaves the pass that made it.
use Rattle.std.specs.Prelude.{◌≡◌, ℕ, ◌<◌, Bool, true, false, List, [], ◌∷◌}
use Rattle.pool_core.specs.declared.words.State.{State}
use Rattle.pool_core.specs.declared.words.StateWord.{StateWord}
use Rattle.pool_core.specs.StateWords.{is_warm, is_awaiting, IsWordOf}
use Rattle.slot_words.specs.declared.leases.Lease.{Lease}
use Rattle.slot_words.specs.declared.words.Words.{Words}
use Rattle.slot_words.specs.declared.views.Operation.{Operation}
use Rattle.slot_words.specs.declared.views.Operation.TheVariants.{Claim}
use Rattle.slot_words.specs.Leases.{lease_number, lease_word}
use Rattle.slot_words.specs.Passes.{Pass, Holds}
use Rattle.slot_words.specs.Owned.{slots_of}

-- a claim that read a held word
pub record IsLost (n : ℕ) (done : List Operation) : Type 0 where
  pub read : ℕ
  pub word : StateWord
  pub is_word : IsWordOf read word
  pub held : word.held ≡ true
  pub done_is : done ≡ Claim n read ∷ []

-- The pass has the slot of this lease: the word that its claim read was not held, and its value fits that word. Beside the number it has a permit and a mark as this says of the word.
pub record HasSlot {V I : Type 0} (fits : State → ℕ → V → Type 0) (words : Words V I) (permit mark : State → Bool) (pass : Pass V) (lease : Lease V) : Type 0 where
  pub word : StateWord
  pub is_word : IsWordOf (lease_word lease) word
  pub free : word.held ≡ false
  pub number : lease_number lease < slots_of words
  pub holds : Holds pass (lease_number lease) (permit word.target.state) false (mark word.target.state)
  pub suits : fits word.target.state word.target.tag lease.value

module _ {V I : Type 0} (fits : State → ℕ → V → Type 0) (words : Words V I) where
  -- as it was won, with the permit or the mark of that word
  abbrev pub HasWon : Pass V → Lease V → Type 0
  HasWon = HasSlot fits words is_warm is_awaiting

  -- with neither any more
  abbrev pub HasTaken : Pass V → Lease V → Type 0
  HasTaken = HasSlot fits words (λ s. false) (λ s. false)
