-- What holds of a pool between any two events. Every count is over all seats, live or not.
use Rattle.std.specs.Prelude.{◌≡◌, ℕ, ◌+◌, ◌≤◌, Bool, true, false, not, ◌&&◌, None}
use Rattle.std.specs.List.{count_by}
use Rattle.pool_core.specs.declared.words.StateWord.{StateWord}
use Rattle.pool_core.specs.declared.seats.Seat.{Seat}
use Rattle.pool_core.specs.StateWords.{bit, is_warm, is_awaiting, is_well_formed}
use Rattle.pool_core.specs.PoolCore.{PoolCore, word_at, seat_at, is_holding, is_away}

abbrev pub is_free_warm : StateWord → Bool
is_free_warm w = not w.held && is_warm w.target.state

abbrev pub is_free_awaiting : StateWord → Bool
is_free_awaiting w = not w.held && is_awaiting w.target.state

abbrev pub has_permit : Seat → Bool
has_permit seat = seat.permit

abbrev pub has_refusal : Seat → Bool
has_refusal seat = seat.refusal

abbrev pub has_mark : Seat → Bool
has_mark seat = seat.mark

pub record IsSoundSeat (seat : Seat) : Type 0 where
  -- a seat that holds nothing has no value out, and no permit, refusal or await mark
  pub empty : seat.holds ≡ None → (seat.out ≡ false) × (seat.permit ≡ false) × (seat.refusal ≡ false) × (seat.mark ≡ false)
  -- a seat that is not made yet, or was joined away, holds nothing
  pub away : is_away seat.stage ≡ true → seat.holds ≡ None
  -- no seat has both a permit and a refusal
  pub single : bit seat.permit + bit seat.refusal ≤ 1

pub record Lawful (c : PoolCore) : Type 0 where
  -- a held word's number is held by one seat, and any other word's by none
  pub holders : (n : ℕ) → count_by (λ seat. is_holding seat.holds n) c.seats ≡ bit (word_at c n).held
  pub seats : (s : ℕ) → IsSoundSeat (seat_at c s)
  -- the count of warm slots is that of the free warm words, the permits and the refusals
  pub warm : c.warm ≡ count_by is_free_warm c.words + (count_by has_permit c.seats + count_by has_refusal c.seats)
  -- the free warm words and the permits are never more than the limit
  pub within : count_by is_free_warm c.words + count_by has_permit c.seats ≤ c.limit
  -- the count of awaiting slots is that of the free awaiting words and the await marks
  pub awaiting : c.awaiting ≡ count_by is_free_awaiting c.words + count_by has_mark c.seats
  -- each word has a tag and a stamp that fit, and neither where it is cold
  pub words : (n : ℕ) → is_well_formed (word_at c n).target ≡ true
