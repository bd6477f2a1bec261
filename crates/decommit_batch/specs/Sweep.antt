-- What a sweep for a module does, by what it reads.
use Rattle.std.specs.Prelude.{◌≡◌, ℕ, ◌==◌, Bool, false, not, ◌&&◌, MatchBool, List, [], ◌∷◌}
use Rattle.std.specs.List.{count_by, range_with_len}
use Rattle.pool_core.specs.declared.words.Target.{Target}
use Rattle.pool_core.specs.declared.words.StateWord.{StateWord}
use Rattle.pool_core.specs.StateWords.{packed, unpacked, cold_word, is_cold}
use Rattle.slot_words.specs.declared.views.Operation.{Operation}
use Rattle.slot_words.specs.declared.views.Operation.TheVariants.{Load, Claim, Release}
use Rattle.slot_words.specs.Parts.{Parts, Then}
use Rattle.decommit_batch.specs.Settle.{IsSettled}

-- a slot that was left like this is of the module of this tag: warm or awaiting for it
abbrev pub is_of_module : ℕ → Target → Bool
is_of_module tag left = not (is_cold left.state) && (left.tag == tag)

-- and nobody holds it
abbrev pub is_free_of : ℕ → StateWord → Bool
is_free_of tag w = not w.held && is_of_module tag w.target

-- A slot that was won, where this was read, is settled and released cold.
abbrev pub IsCleaned : ℕ → ℕ → List Operation → Type 0
IsCleaned n read done = Then (IsSettled read) (λ last. last ≡ Release n (packed cold_word) ∷ []) done

-- The claim of a number that was seen free and of the module. If it is won and not of the module any more, it is released as it was.
abbrev pub IsCleaningTried : ℕ → ℕ → List Operation → Type 0
IsCleaningTried tag n done = (read : ℕ) × MatchBool (unpacked read).held
    (done ≡ Claim n read ∷ [])
    (MatchBool (is_of_module tag (unpacked read).target)
    ((others : List Operation) × (done ≡ Claim n read ∷ others) × IsCleaned n read others)
    (done ≡ Claim n read ∷ Release n read ∷ []))

-- One number of a sweep: one load, and where it shows that the slot is free and of the module, one claim.
abbrev pub IsSweepPart : ℕ → ℕ → List Operation → Type 0
IsSweepPart tag n done = (read : ℕ) × MatchBool (is_free_of tag (unpacked read))
    ((others : List Operation) × (done ≡ Load n read ∷ others) × IsCleaningTried tag n others)
    (done ≡ Load n read ∷ [])

-- a claim that found the slot free and of the module
abbrev pub finds_its_own : ℕ → Operation → Bool
finds_its_own tag (Claim n read) = is_free_of tag (unpacked read)
finds_its_own tag o = false

-- a sweep for the module of this tag, which cleaned so many slots
pub record IsSweep (tag slots cleaned : ℕ) (done : List Operation) : Type 0 where
  -- one part for each number, rising
  pub parts : Parts (IsSweepPart tag) (range_with_len 0 slots) done
  pub cleaned_is : cleaned ≡ count_by (finds_its_own tag) done
