-- What a flush does, by what it reads.
use Rattle.std.specs.Prelude.{◌≡◌, ℕ, ltb, MatchBool, List, [], ◌∷◌}
use Rattle.std.specs.List.{range_with_len}
use Rattle.pool_core.specs.declared.words.State.TheVariants.{Warm}
use Rattle.pool_core.specs.declared.words.Target.{Target}
use Rattle.pool_core.specs.declared.words.StateWord.{StateWord}
use Rattle.pool_core.specs.StateWords.{packed, free_word, cold_word, is_awaiting, IsWordOf}
use Rattle.pool_core.specs.Lawful.{is_free_awaiting}
use Rattle.slot_words.specs.declared.views.Operation.{Operation}
use Rattle.slot_words.specs.declared.views.Operation.TheVariants.{Load, Claim, Release, WarmUp, WarmDown, AwaitDown}
use Rattle.slot_words.specs.Parts.{Parts}

-- An awaiting slot that was won gives its mark back. With a permit it is released warm, with the tag and the stamp that it had; without one the refusal is given back, and it is released cold.
abbrev pub IsDecommit : ℕ → ℕ → Target → List Operation → Type 0
IsDecommit limit n found done = (a : ℕ) × (r : ℕ) × MatchBool (ltb r limit)
    (done ≡ AwaitDown a ∷ WarmUp r ∷ Release n (packed (free_word (record found { state = Warm }))) ∷ [])
    ((d : ℕ) × (done ≡ AwaitDown a ∷ WarmUp r ∷ WarmDown d ∷ Release n (packed cold_word) ∷ []))

-- The claim of a number that was seen free and awaiting. If it is won and not awaiting any more, it is released as it was.
abbrev pub IsTried : ℕ → ℕ → List Operation → Type 0
IsTried limit n done = (read : ℕ) × (w : StateWord) × IsWordOf read w × MatchBool w.held
    (done ≡ Claim n read ∷ [])
    (MatchBool (is_awaiting w.target.state)
    ((others : List Operation) × (done ≡ Claim n read ∷ others) × IsDecommit limit n w.target others)
    (done ≡ Claim n read ∷ Release n read ∷ []))

-- One number of a flush: one load, and where it shows that the slot is free and awaits, one claim.
abbrev pub IsFlushPart : ℕ → ℕ → List Operation → Type 0
IsFlushPart limit n done = (read : ℕ) × (w : StateWord) × IsWordOf read w × MatchBool (is_free_awaiting w)
    ((others : List Operation) × (done ≡ Load n read ∷ others) × IsTried limit n others)
    (done ≡ Load n read ∷ [])

-- all of a flush: one part for each number, rising
abbrev pub IsFlush : ℕ → ℕ → List Operation → Type 0
IsFlush limit slots done = Parts (IsFlushPart limit) (range_with_len 0 slots) done
