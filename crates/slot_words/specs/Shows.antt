-- The rule: what threads share shows one core, which is lawful.
use Rattle.std.specs.Prelude.{◌≡◌, ℕ, ◌+◌, ◌*◌, ◌^◌, ◌<◌, Bool, true, false, Option, Some, List, length, slice_index_or}
use mathlib.Core.Option.{none, some}
use lib.ListN.{get_elem?}
use Rattle.atomic_table.specs.Table.{State as TableState}
use Rattle.pool_core.specs.declared.words.State.{State}
use Rattle.pool_core.specs.declared.seats.Seat.{Seat}
use Rattle.pool_core.specs.StateWords.{packed}
use Rattle.pool_core.specs.PoolCore.{PoolCore, word_at, seat_at, is_away}
use Rattle.pool_core.specs.Lawful.{Lawful}
use Rattle.slot_words.specs.declared.views.PassView.{PassView}
use Rattle.slot_words.specs.declared.views.Bounds.{Bounds}
use Rattle.slot_words.specs.History.{IsHistory, opening_of}
use Rattle.slot_words.specs.SharedPasses.{AreShared}
use Rattle.slot_words.specs.Views.{no_view, trails_of}

-- the seat whose view is the j-th; a number that no view has is of a seat that is not made
abbrev pub shown_seat : List PassView → ℕ → Seat
shown_seat vs j = (slice_index_or vs j no_view).seat

-- how many of the passes that were handed out a view stands for, and how many seats may still be split off from it
abbrev pub view_share : PassView → ℕ
view_share v = v.share

abbrev pub view_unsplit : PassView → ℕ
view_unsplit v = v.unsplit

-- whether the seat of a view has a permit
abbrev pub view_permit : PassView → Bool
view_permit v = v.seat.permit

-- A seat that is neither unmade nor joined away knows the bounds, and stands for the seats whose trails it has and for those that may be split off from it. Of none does its view say that its value is out.
pub record IsCounted (bounds : Bounds) (v : PassView) : Type 0 where
  pub inside : v.seat.out ≡ false
  pub bounds_is : is_away v.seat.stage ≡ false → v.bounds ≡ bounds
  pub share_is : is_away v.seat.stage ≡ false → v.share ≡ v.unsplit + length (trails_of v)

module _ {V : Type 0} (fits : State → ℕ → V → Type 0) where
  -- the words, the values at home and the views of the seats show this core
  pub record Shows (bounds : Bounds) (core : PoolCore) (s : TableState (Option V) PassView) : Type 0 where
    pub limit_is : core.limit ≡ bounds.limit
    pub countable : length core.words + 2 * bounds.passes < 2 ^ 63
    pub seats_are : length core.seats ≡ bounds.passes
    pub words_are : length s.words ≡ length core.words + 3
    pub slots_are : length s.homes ≡ length core.words
    pub word_shows : (n : ℕ) → n < length core.words → slice_index_or s.words n 0 ≡ packed (word_at core n)
    pub warm_shows : slice_index_or s.words (length core.words) 0 ≡ core.warm
    pub await_shows : slice_index_or s.words (length core.words + 1) 0 ≡ core.awaiting
    pub clock_shows : slice_index_or s.words (length core.words + 2) 0 ≡ core.clock
    pub seat_shows : (j : ℕ) → seat_at core j ≡ shown_seat s.views j
    -- the value of a number that is not held is at home, and fits its word
    pub at_home : (n : ℕ) → n < length core.words → (word_at core n).held ≡ false
        → (x : V) × (get_elem? s.homes n ≡ some (some (Some x))) × fits (word_at core n).target.state (word_at core n).target.tag x
    -- the slot of a held number is empty: its holder has the value, or what stands in its place
    pub away : (n : ℕ) → n < length core.words → (word_at core n).held ≡ true → get_elem? s.homes n ≡ some none
    pub shared : AreShared view_share view_unsplit bounds.passes s.views
    pub each : (j : ℕ) (v : PassView) → get_elem? s.views j ≡ some v → IsCounted bounds v

  -- they show one core, and it is lawful
  pub record ShowsLawful (bounds : Bounds) (s : TableState (Option V) PassView) : Type 0 where
    pub core : PoolCore
    pub lawful : Lawful core
    pub shows : Shows bounds core s

  -- What the table keeps: they show one lawful core, and one history leads to it.
  pub record IsKept (bounds : Bounds) (s : TableState (Option V) PassView) : Type 0 where
    pub rule : ShowsLawful bounds s
    pub history : IsHistory (opening_of bounds rule.core) rule.core s.views
