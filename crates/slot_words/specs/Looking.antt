-- What a look at all slots reads, and what it counts.
use Rattle.std.specs.Prelude.{◌≡◌, ℕ, List, length, map}
use Rattle.pool_core.specs.StateWords.{unpacked}
use Rattle.slot_words.specs.declared.kinds.KindCounts.{KindCounts}
use Rattle.slot_words.specs.declared.views.Operation.{Operation}
use Rattle.slot_words.specs.KindCounts.{kind_counts}
use Rattle.slot_words.specs.Trails.{loads_from}

-- each slot's word is read, by rising number, and the counts are those of the words that were read
pub record IsCount (slots : ℕ) (counts : KindCounts) (done : List Operation) : Type 0 where
  pub seen : List ℕ
  pub all_seen : length seen ≡ slots
  pub done_is : done ≡ loads_from 0 seen
  pub counts_are : counts ≡ kind_counts (map unpacked seen)
