-- The word with which a text begins, and what follows it.
use Rattle.std.specs.Borrow.{Bor}
use Rattle.std.specs.Prelude.{◌≡◌, ℕ, ◌==◌, not, false, true, List, take, drop, Option, Some, None, MatchOption}
use Rattle.std.specs.List.{list_all, position_or_len}
use Rattle.request_words.specs.Words.{is_empty}

-- the bytes before the first space
abbrev pub first_word : List ℕ → List ℕ
first_word text = take (position_or_len (λ b. b == 32) text) text

-- the others
abbrev pub after_word : List ℕ → List ℕ
after_word text = drop (position_or_len (λ b. b == 32) text) text

-- a word has a byte and no space
abbrev pub IsWord : List ℕ → Type 0
IsWord word = (is_empty word ≡ false) × (list_all (λ b. not (b == 32)) word ≡ true)

-- the word with which a text begins stands for what is read, and what follows it is left
abbrev pub Reads : {A : Type 0} → Option (A × Bor (List ℕ)) → (meaning : Option A) → (text : List ℕ) → Type 0
Reads result meaning text = MatchOption result (meaning ≡ None) (λ r. (meaning ≡ Some r.0) × (r.1.now ≡ after_word text))
