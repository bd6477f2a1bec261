-- What an event leaves as it was.
use Rattle.std.proofs.Common.{◌≡◌, ℕ, ◌-◌, ◌+◌, Bool, true, false, true≢false, cond, length-set, refl, get_or-set_other}
use Rattle.std.specs.Prelude.{◌==◌}
use Rattle.std.proofs.lemmas.Bool.{eqb-false}
use Rattle.std.proofs.lemmas.List.{length-map}
use Rattle.pool_core.specs.declared.words.StateWord.{StateWord}
use Rattle.pool_core.specs.declared.seats.Seat.{Seat}
use Rattle.pool_core.specs.declared.seats.Stage.TheVariants.{Unmade, Live, Joined}
use Rattle.pool_core.specs.declared.events.Event.{Event}
use Rattle.pool_core.specs.declared.events.Event.TheVariants.{AwaitDown, AwaitLoad, AwaitUp, Claim, Close, Home, Join, Load, Out, Release, Split, Stamp, WarmDown, WarmLoad, WarmUp}
use Rattle.pool_core.specs.StateWords.{free_word, held_word}
use Rattle.pool_core.specs.PoolCore.{PoolCore, idle_seat, word_at, seat_at}
use Rattle.pool_core.specs.EventEffects.{closed_seat, core_after, warmed_seat, winning_seat, with_seat, with_word}
use Rattle.pool_core.specs.Changes.{ChangesOnly, may_change_awaiting, may_change_seat, may_change_warm, may_change_word}

unchanged : (e : Event) (c : PoolCore) → ChangesOnly e c c
unchanged e c = record { seats = λ i h. refl; words = λ i h. refl; seat_count = refl; word_count = refl; limit = refl; warm = λ _. refl; awaiting = λ _. refl; clock = λ _. refl }

one_seat : (e : Event) (c : PoolCore) (s : ℕ) (q : Seat) (warm awaiting : ℕ) → ((i : ℕ) → may_change_seat e i ≡ false → (i == s) ≡ false)
    → (may_change_warm e ≡ false → warm ≡ c.warm) → (may_change_awaiting e ≡ false → awaiting ≡ c.awaiting)
    → ChangesOnly e c (with_seat (record c { warm = warm; awaiting = awaiting }) s q)
one_seat e c s q warm awaiting own warmth waiting = record {
  seats = λ i h. get_or-set_other c.seats s i q (idle_seat Unmade) (eqb-false i s (own i h));
  words = λ i h. refl;
  seat_count = length-set c.seats s q;
  word_count = refl;
  limit = refl;
  warm = warmth;
  awaiting = waiting;
  clock = λ _. refl;
}

one_of_each : (e : Event) (c : PoolCore) (s n : ℕ) (q : Seat) (v : StateWord) → ((i : ℕ) → may_change_seat e i ≡ false → (i == s) ≡ false) → ((i : ℕ) → may_change_word e i ≡ false → (i == n) ≡ false)
    → ChangesOnly e c (with_seat (with_word c n v) s q)
one_of_each e c s n q v own slot = let d = one_seat e c s q c.warm c.awaiting own (λ _. refl) (λ _. refl) in record {
  seats = d.seats;
  words = λ i h. get_or-set_other c.words n i v _ (eqb-false i n (slot i h));
  seat_count = d.seat_count;
  word_count = length-set c.words n v;
  limit = refl;
  warm = λ _. refl;
  awaiting = λ _. refl;
  clock = λ _. refl;
}

pub changes_only : (c : PoolCore) (e : Event) → ChangesOnly e c (core_after c e)
changes_only c (Load s n) = unchanged (Load s n) c
changes_only c (Claim s n) = let w : StateWord = word_at c n in
    let split : (b : Bool) → ChangesOnly (Claim s n) c (cond b c (with_seat (with_word c n (held_word w)) s (winning_seat (seat_at c s) n w))) = elim [
      | true ↦ unchanged (Claim s n) c
      | false ↦ one_of_each (Claim s n) c s n (winning_seat (seat_at c s) n w) (held_word w) (λ i h. h) (λ i h. h)
    ] in split w.held
changes_only c (Out s n) = one_seat (Out s n) c s (record (seat_at c s) { out = true }) c.warm c.awaiting (λ i h. h) (λ _. refl) (λ _. refl)
changes_only c (Home s n) = one_seat (Home s n) c s (record (seat_at c s) { out = false }) c.warm c.awaiting (λ i h. h) (λ _. refl) (λ _. refl)
changes_only c (Release s n to) = one_of_each (Release s n to) c s n (idle_seat (seat_at c s).stage) (free_word to) (λ i h. h) (λ i h. h)
changes_only c (Split s t) = one_seat (Split s t) c t (idle_seat Live) c.warm c.awaiting (λ i h. h) (λ _. refl) (λ _. refl)
changes_only c (Join s t) = one_seat (Join s t) c t (idle_seat Joined) c.warm c.awaiting (λ i h. h) (λ _. refl) (λ _. refl)
changes_only c (Close s) = record { seats = λ i h. absurd (true≢false h); words = λ i h. refl; seat_count = length-map c.seats closed_seat; word_count = refl; limit = refl; warm = λ _. refl; awaiting = λ _. refl; clock = λ _. refl }
changes_only c (WarmLoad s) = unchanged (WarmLoad s) c
changes_only c (WarmUp s) = one_seat (WarmUp s) c s (warmed_seat c (seat_at c s)) (c.warm + 1) c.awaiting (λ i h. h) (λ h. absurd (true≢false h)) (λ _. refl)
changes_only c (WarmDown s) = one_seat (WarmDown s) c s (record (seat_at c s) { permit = false; refusal = false }) (c.warm - 1) c.awaiting (λ i h. h) (λ h. absurd (true≢false h)) (λ _. refl)
changes_only c (Stamp s) = record { seats = λ i h. refl; words = λ i h. refl; seat_count = refl; word_count = refl; limit = refl; warm = λ _. refl; awaiting = λ _. refl; clock = λ h. absurd (true≢false h) }
changes_only c (AwaitUp s) = one_seat (AwaitUp s) c s (record (seat_at c s) { mark = true }) c.warm (c.awaiting + 1) (λ i h. h) (λ _. refl) (λ h. absurd (true≢false h))
changes_only c (AwaitDown s) = one_seat (AwaitDown s) c s (record (seat_at c s) { mark = false }) c.warm (c.awaiting - 1) (λ i h. h) (λ _. refl) (λ h. absurd (true≢false h))
changes_only c (AwaitLoad s) = unchanged (AwaitLoad s) c
