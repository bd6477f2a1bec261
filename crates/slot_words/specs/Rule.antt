-- What the rule says of any moment, in plain words.
use Rattle.std.specs.Prelude.{◌≡◌, ℕ, ◌+◌, ◌%◌, ◌^◌, ◌<◌, ◌≤◌, false, Option, Some, None, List, length, slice_index_or}
use Rattle.std.specs.List.{count_by}
use mathlib.Core.Option.{some}
use lib.ListN.{get_elem?}
use Rattle.atomic_table.specs.Table.{State as TableState}
use Rattle.pool_core.specs.declared.words.State.{State}
use Rattle.pool_core.specs.declared.words.StateWord.{StateWord}
use Rattle.pool_core.specs.StateWords.{IsWordOf}
use Rattle.pool_core.specs.PoolCore.{is_live}
use Rattle.pool_core.specs.Lawful.{is_free_warm}
use Rattle.slot_words.specs.declared.views.PassView.{PassView}
use Rattle.slot_words.specs.declared.views.Bounds.{Bounds}
use Rattle.slot_words.specs.Accounts.{is_stamp}
use Rattle.slot_words.specs.KindCounts.{BeginsWith}
use Rattle.pool_core.specs.PoolCore.{PoolCore}
use Rattle.slot_words.specs.History.{IsHistory, all_operations, opening_of}
use Rattle.slot_words.specs.Shows.{IsKept, Shows, ShowsLawful, shown_seat, view_permit}

module _ {V : Type 0} (fits : State → ℕ → V → Type 0) where
  -- no two passes hold one number
  abbrev pub OneHolder : Type 0
  OneHolder = (bounds : Bounds) (s : TableState (Option V) PassView) → ShowsLawful fits bounds s
      → (i j n : ℕ) → (shown_seat s.views i).holds ≡ Some n → (shown_seat s.views j).holds ≡ Some n → i ≡ j

  -- where the word of a slot is held, a pass holds that slot, and it is another than one that holds nothing
  abbrev pub HeldByAnother : Type 0
  HeldByAnother = (bounds : Bounds) (s : TableState (Option V) PassView) → ShowsLawful fits bounds s
      → (n i : ℕ) → n < length s.homes → slice_index_or s.words n 0 % 2 ≡ 1 → (shown_seat s.views i).holds ≡ None
      → (j : ℕ) × ¬ (j ≡ i) × ((shown_seat s.views j).holds ≡ Some n)

  -- there are never more seats than passes were handed out
  abbrev pub NoHiddenSeat : Type 0
  NoHiddenSeat = (bounds : Bounds) (s : TableState (Option V) PassView) → ShowsLawful fits bounds s → length s.views ≤ bounds.passes

  -- beside a pass that stands for all, no seat is live
  abbrev pub AloneWithAll : Type 0
  AloneWithAll = (bounds : Bounds) (s : TableState (Option V) PassView) → ShowsLawful fits bounds s
      → (i : ℕ) (v : PassView) → get_elem? s.views i ≡ some v → v.share ≡ bounds.passes → (j : ℕ) → ¬ (j ≡ i) → is_live (shown_seat s.views j).stage ≡ false

  -- the free warm slots that the words say and the permits that passes have are together at most as many as may be warm
  abbrev pub WithinLimit : Type 0
  WithinLimit = (bounds : Bounds) (s : TableState (Option V) PassView) → ShowsLawful fits bounds s
      → (ws : List StateWord) × (length ws + 3 ≡ length s.words) × BeginsWith s.words ws × (count_by is_free_warm ws + count_by view_permit s.views ≤ bounds.limit)

  -- the value of a slot that is not held is at home, and fits the slot's word
  abbrev pub FreeValuesFit : Type 0
  FreeValuesFit = (bounds : Bounds) (s : TableState (Option V) PassView) → ShowsLawful fits bounds s
      → (n : ℕ) (w : StateWord) → n < length s.homes → IsWordOf (slice_index_or s.words n 0) w → w.held ≡ false
      → (x : V) × (get_elem? s.homes n ≡ some (some (Some x))) × fits w.target.state w.target.tag x

  -- the clock word has gone on once for each stamp of all passes, round 2^64
  abbrev pub ClockCountsStamps : Type 0
  ClockCountsStamps = (bounds : Bounds) (s : TableState (Option V) PassView) → IsKept fits bounds s
      → slice_index_or s.words (length s.homes + 2) 0 ≡ count_by is_stamp (all_operations s.views) % 2 ^ 64

  -- All steps of all passes, in some order, are one list of events from the opening, none of which is refused where it comes. The order need not be that in time: the list of a later moment need not go on from that of an earlier one. It leads to what is shown. Each pass's trail, and each trail that was joined into it, is what that trail's seat noted of it.
  abbrev pub OneHistory : Type 0
  OneHistory = (bounds : Bounds) (s : TableState (Option V) PassView) → IsKept fits bounds s
      → (core : PoolCore) × Shows fits bounds core s × IsHistory (opening_of bounds core) core s.views
