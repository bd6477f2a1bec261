-- What reading an input and writing a text do to a source and a sink.
use Rattle.std.specs.Prelude.{◌≤◌, ◌<◌, ℕ, List, length, take}
use Rattle.std.specs.declared.option.Option.{Option}
use Rattle.std.specs.Io.KnownBytes.{Appends, Consumes, IsAtEnd}

-- these bytes were taken: all that were left, or one more than the 64 MiB of the longest file
pub record ReadsInput (left_before left_after : Option (List ℕ)) (bytes : List ℕ) : Type 0 where
  pub taken : Consumes left_before left_after bytes
  pub size : length bytes ≤ 67108865
  pub end : length bytes ≤ 67108864 → IsAtEnd left_after

-- the first bytes of the text were appended, and not all of them
abbrev pub AppendsPart : Option (List ℕ) → Option (List ℕ) → List ℕ → Type 0
AppendsPart before after text = (n : ℕ) × (n < length text) × Appends before after (take n text)

-- n bytes at most were taken
abbrev pub TakesAtMost : Option (List ℕ) → Option (List ℕ) → ℕ → Type 0
TakesAtMost before after n = (bytes : List ℕ) × Consumes before after bytes × (length bytes ≤ n)
