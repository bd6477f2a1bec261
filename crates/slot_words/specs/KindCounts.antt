-- How many words there are of each kind. A held word counts as held alone.
use Rattle.std.specs.Prelude.{ℕ, ◌+◌, ◌<◌, Bool, not, ◌&&◌, List, length, slice_index_or}
use Rattle.std.specs.List.{count_by}
use Rattle.pool_core.specs.declared.words.StateWord.{StateWord}
use Rattle.pool_core.specs.StateWords.{bit, is_cold, cold_word, IsWordOf}
use Rattle.pool_core.specs.Lawful.{is_free_warm, is_free_awaiting}
use Rattle.slot_words.specs.declared.kinds.KindCounts.{KindCounts}

abbrev pub is_free_cold : StateWord → Bool
is_free_cold w = not w.held && is_cold w.target.state

abbrev pub is_held : StateWord → Bool
is_held w = w.held

abbrev pub kind_counts : List StateWord → KindCounts
kind_counts ws = record { cold = count_by is_free_cold ws; warm = count_by is_free_warm ws; awaiting = count_by is_free_awaiting ws; held = count_by is_held ws }

-- the counts, and one word more
abbrev pub counts_with : KindCounts → StateWord → KindCounts
counts_with k w = record { cold = k.cold + bit (is_free_cold w); warm = k.warm + bit (is_free_warm w); awaiting = k.awaiting + bit (is_free_awaiting w); held = k.held + bit (is_held w) }

-- the numbers begin with the 64 bits of each of these words, in order
pub record BeginsWith (numbers : List ℕ) (ws : List StateWord) : Type 0 where
  pub each : (n : ℕ) → n < length ws → IsWordOf (slice_index_or numbers n 0) (slice_index_or ws n cold_word)
