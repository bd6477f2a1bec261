-- What the words say as they are closed.
use Rattle.std.specs.Prelude.{◌≡◌, ℕ, ◌≤◌, true, List, [], ◌∷◌, ◌++◌, length, slice_index_or}
use Rattle.std.specs.List.{All, count_by}
use Rattle.pool_core.specs.declared.words.StateWord.{StateWord}
use Rattle.pool_core.specs.declared.events.Event.{Event}
use Rattle.pool_core.specs.declared.events.Event.TheVariants.{Close}
use Rattle.pool_core.specs.StateWords.{is_well_formed, cold_word}
use Rattle.pool_core.specs.PoolCore.{opening_core}
use Rattle.pool_core.specs.Runs.{core_after_all, AllAllowed}
use Rattle.slot_words.specs.declared.kinds.KindCounts.{KindCounts}
use Rattle.slot_words.specs.declared.views.Operation.{Operation}
use Rattle.slot_words.specs.declared.views.SeatTrail.{SeatTrail}
use Rattle.slot_words.specs.KindCounts.{kind_counts}
use Rattle.slot_words.specs.Accounts.{AreLeft, AreKept}
use Rattle.slot_words.specs.History.{IsTrail, is_of}

-- the counts of so many words, which these operations left; the held ones are those that were claimed and not given back
pub record CountsLeft (slots : ℕ) (done : List Operation) (counts : KindCounts) : Type 0 where
  pub words : List StateWord
  pub slots_are : length words ≡ slots
  pub well_formed : (n : ℕ) → is_well_formed (slice_index_or words n cold_word).target ≡ true
  pub left : AreLeft done words
  pub kept : AreKept done counts.held
  pub counted : counts ≡ kind_counts words

-- the seat of the first of some trails
abbrev pub first_seat : List SeatTrail → ℕ
first_seat [] = 0
first_seat (t ∷ ts) = t.seat

-- Words of these sizes, closed by a pass that stands for so many passes, those of these trails, its own first. One list of events from the opening, none of which is refused where it comes, ends in the Close of that pass's seat. Each of the trails is what its seat noted of it, and the counts are those of the words at its end.
pub record ClosesAs (slots limit passes share : ℕ) (trails : List SeatTrail) (counts : KindCounts) : Type 0 where
  pub events : List Event
  pub allowed : AllAllowed (opening_core slots limit passes) (events ++ Close (first_seat trails) ∷ [])
  pub each : All (IsTrail (opening_core slots limit passes) events) trails
  -- no two of them are of one seat
  pub apart : (s : ℕ) → count_by (is_of s) trails ≤ 1
  pub stands : share ≡ length trails
  pub counted : counts ≡ kind_counts (core_after_all (opening_core slots limit passes) (events ++ Close (first_seat trails) ∷ [])).words
