-- A pool as plain data: its words, its seats, and the three numbers that the seats share.
use Rattle.std.specs.Prelude.{ℕ, ◌-◌, ◌==◌, Bool, true, false, not, ◌&&◌, Option, Some, None, is_none, List, ◌∷◌, replicate, slice_index_or}
use Rattle.pool_core.specs.declared.words.StateWord.{StateWord}
use Rattle.pool_core.specs.declared.seats.Stage.{Stage}
use Rattle.pool_core.specs.declared.seats.Stage.TheVariants.{Unmade, Live, Joined, Closed}
use Rattle.pool_core.specs.declared.seats.Seat.{Seat}
use Rattle.pool_core.specs.StateWords.{cold_word}

pub record PoolCore : Type 0 where
  -- one for each slot
  pub words : List StateWord
  -- one for each seat that may ever be made
  pub seats : List Seat
  -- the count of warm slots, that of awaiting slots, and the clock
  pub warm : ℕ
  pub awaiting : ℕ
  pub clock : ℕ
  -- the most slots that may be warm
  pub limit : ℕ

-- the pool of these words and seats, with these counts, this clock and this limit
abbrev pub core_of : List StateWord → List Seat → (warm awaiting clock limit : ℕ) → PoolCore
core_of words seats warm awaiting clock limit = record { words = words; seats = seats; warm = warm; awaiting = awaiting; clock = clock; limit = limit }

-- the seat that holds nothing and owes nothing
abbrev pub idle_seat : Stage → Seat
idle_seat stage = record { stage = stage; holds = None; out = false; permit = false; refusal = false; mark = false }

-- a live seat that holds this number, its value being in the slot
abbrev pub holding_seat : ℕ → Bool → Bool → Bool → Seat
holding_seat n permit refusal mark = record { stage = Live; holds = Some n; out = false; permit = permit; refusal = refusal; mark = mark }

-- a place past the list reads as cold
abbrev pub word_at : PoolCore → ℕ → StateWord
word_at c n = slice_index_or c.words n cold_word

-- a place past the list reads as not made yet
abbrev pub seat_at : PoolCore → ℕ → Seat
seat_at c s = slice_index_or c.seats s (idle_seat Unmade)

abbrev pub is_live : Stage → Bool
is_live Unmade = false
is_live Live = true
is_live Joined = false
is_live Closed = false

abbrev pub is_unmade : Stage → Bool
is_unmade Unmade = true
is_unmade Live = false
is_unmade Joined = false
is_unmade Closed = false

-- not made yet, or joined into another
abbrev pub is_away : Stage → Bool
is_away Unmade = true
is_away Live = false
is_away Joined = true
is_away Closed = false

abbrev pub is_holding : Option ℕ → ℕ → Bool
is_holding None n = false
is_holding (Some held) n = held == n

-- it holds nothing, and has no permit, refusal or await mark
abbrev pub is_idle : Seat → Bool
is_idle seat = is_none seat.holds && not seat.permit && not seat.refusal && not seat.mark

-- the pool as it opens: every word is cold and free, and seat 0 alone is live
abbrev pub opening_core : ℕ → ℕ → ℕ → PoolCore
opening_core slots limit seats = record {
  words = replicate slots cold_word;
  seats = idle_seat Live ∷ replicate (seats - 1) (idle_seat Unmade);
  warm = 0;
  awaiting = 0;
  clock = 0;
  limit = limit;
}
