-- What each event makes of a pool. All that a case does not name stays.
use Rattle.std.specs.Prelude.{ℕ, ◌+◌, ◌-◌, ◌%◌, ◌^◌, true, false, not, cond, ltb, Some, map, slice_set}
use Rattle.pool_core.specs.declared.words.StateWord.{StateWord}
use Rattle.pool_core.specs.declared.seats.Stage.TheVariants.{Live, Joined, Closed}
use Rattle.pool_core.specs.declared.seats.Seat.{Seat}
use Rattle.pool_core.specs.declared.events.Event.{Event}
use Rattle.pool_core.specs.declared.events.Event.TheVariants.{Load, Claim, Out, Home, Release, Split, Join, Close, WarmLoad, WarmUp, WarmDown, Stamp, AwaitUp, AwaitDown, AwaitLoad}
use Rattle.pool_core.specs.StateWords.{is_warm, is_awaiting, held_word, free_word}
use Rattle.pool_core.specs.PoolCore.{PoolCore, word_at, seat_at, idle_seat, is_live}

-- the seat that won the number n, whose word was w
abbrev pub winning_seat : Seat → ℕ → StateWord → Seat
winning_seat seat n w = record seat { holds = Some n; out = false; permit = is_warm w.target.state; refusal = false; mark = is_awaiting w.target.state }

-- the seat that read the count of warm slots, below the limit or not
abbrev pub warmed_seat : PoolCore → Seat → Seat
warmed_seat c seat = record seat { permit = ltb c.warm c.limit; refusal = not (ltb c.warm c.limit) }

-- a live seat ends, and keeps what it holds
abbrev pub closed_seat : Seat → Seat
closed_seat seat = cond (is_live seat.stage) (record seat { stage = Closed }) seat

abbrev pub with_seat : PoolCore → ℕ → Seat → PoolCore
with_seat c s seat = record c { seats = slice_set c.seats s seat }

abbrev pub with_word : PoolCore → ℕ → StateWord → PoolCore
with_word c n w = record c { words = slice_set c.words n w }

-- a claim of a held word changes nothing
abbrev pub core_after_claim : PoolCore → ℕ → ℕ → PoolCore
core_after_claim c s n = let w = word_at c n in
    cond w.held c (with_seat (with_word c n (held_word w)) s (winning_seat (seat_at c s) n w))

abbrev pub core_after : PoolCore → Event → PoolCore
core_after c (Load s n) = c
core_after c (Claim s n) = core_after_claim c s n
core_after c (Out s n) = with_seat c s (record (seat_at c s) { out = true })
core_after c (Home s n) = with_seat c s (record (seat_at c s) { out = false })
core_after c (Release s n to) = with_seat (with_word c n (free_word to)) s (idle_seat (seat_at c s).stage)
core_after c (Split s t) = with_seat c t (idle_seat Live)
core_after c (Join s t) = with_seat c t (idle_seat Joined)
core_after c (Close s) = record c { seats = map closed_seat c.seats }
core_after c (WarmLoad s) = c
core_after c (WarmUp s) = with_seat (record c { warm = c.warm + 1 }) s (warmed_seat c (seat_at c s))
core_after c (WarmDown s) = with_seat (record c { warm = c.warm - 1 }) s (record (seat_at c s) { permit = false; refusal = false })
core_after c (Stamp s) = record c { clock = (c.clock + 1) % 2 ^ 64 }
core_after c (AwaitUp s) = with_seat (record c { awaiting = c.awaiting + 1 }) s (record (seat_at c s) { mark = true })
core_after c (AwaitDown s) = with_seat (record c { awaiting = c.awaiting - 1 }) s (record (seat_at c s) { mark = false })
core_after c (AwaitLoad s) = c
