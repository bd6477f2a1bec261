-- A claim, a release and a change of stage keep a pool lawful.
use Rattle.std.proofs.Common.{is_none, ◌≡◌, ℕ, zero, suc, ◌+◌, ◌<◌, ◌≤◌, eq-eqb, Bool, true, false, true≢false, not, ◌&&◌, List, [], ◌∷◌, length, get_or, set, refl, sym, ap, ◌∙◌, arith}
use Rattle.std.proofs.lemmas.Bool.Decides.{nat_tests}
use Rattle.std.specs.Prelude.{Option, Some, None}
use Rattle.std.proofs.lemmas.List.Sums.{get_or-le-sum_by}
use Rattle.pool_core.specs.declared.seats.Seat.{Seat}
use Rattle.pool_core.specs.declared.seats.Stage.{Stage}
use Rattle.pool_core.specs.declared.seats.Stage.TheVariants.{Live, Unmade}
use Rattle.pool_core.specs.declared.words.State.{State}
use Rattle.pool_core.specs.declared.words.State.TheVariants.{Awaiting, Cold, Warm}
use Rattle.pool_core.specs.declared.words.StateWord.{StateWord}
use Rattle.pool_core.specs.declared.words.Target.{Target}
use Rattle.pool_core.specs.EventEffects.{winning_seat}
use Rattle.pool_core.specs.Lawful.{Lawful}
use Rattle.pool_core.specs.PoolCore.{PoolCore, idle_seat, is_away, is_holding, is_idle, is_live, seat_at, word_at}
use Rattle.pool_core.specs.StateWords.{bit, cold_word, free_word, held_word, is_awaiting, is_warm, is_well_formed}
use Rattle.pool_core.proofs.WordBits.{bit_le}
use Rattle.pool_core.proofs.CoreChanges.{IsFairChange, lawful_change, lawful_seat_change}

pub record IsAtRest (p : Seat) : Type 0 where
  pub holds : p.holds ≡ None
  pub permit : p.permit ≡ false
  pub refusal : p.refusal ≡ false
  pub mark : p.mark ≡ false

rest_parts : (h : Option ℕ) (a b c : Bool) → (is_none h && not a && not b && not c) ≡ true → (h ≡ None) × (a ≡ false) × (b ≡ false) × (c ≡ false)
rest_parts None false false false e = (refl, refl, refl, refl)
rest_parts None true b c e = absurd (true≢false (sym e))
rest_parts None false true c e = absurd (true≢false (sym e))
rest_parts None false false true e = absurd (true≢false (sym e))
rest_parts (Some n) a b c e = absurd (true≢false (sym e))

pub at_rest_of : (p : Seat) → is_idle p ≡ true → IsAtRest p
at_rest_of p e = let r = rest_parts p.holds p.permit p.refusal p.mark e in record { holds = r.0; permit = r.1; refusal = r.2; mark = r.3 }

warm_alone : (s : State) → bit (is_warm s) + bit (is_awaiting s) ≤ 1
warm_alone Cold = omega arith
warm_alone Warm = omega arith
warm_alone Awaiting = omega arith

pub live_away : (st : Stage) → is_live st ≡ true → is_away st ≡ true → ⊥
live_away Unmade a b = true≢false (sym a)
live_away Live a b = true≢false (sym b)
live_away st a b = true≢false (sym a)

pub fair_claim : (c : PoolCore) (p : Seat) (n : ℕ) (w : StateWord) → IsAtRest p → is_well_formed w.target ≡ true → w.held ≡ false → is_live p.stage ≡ true → IsFairChange c p (winning_seat p n w) n w (held_word w) c.warm c.awaiting
fair_claim c p n w r well free live = let one = bit_le (is_warm w.target.state) in record {
  sound = record { empty = λ e. absurd (cc); away = λ e. absurd (live_away p.stage live e); single = omega arith };
  well_formed = well;
  others = λ m other. rw (r.holds) (grind (arith, nat_tests));
  own = rw (r.holds, free) (grind (arith, nat_tests));
  warmth = rw (free, r.permit, r.refusal) (omega arith);
  within = λ x. rw (free, r.permit) (λ a b. omega arith);
  waiting = rw (free, r.mark) (omega arith);
}

-- a claim of a free slot
pub lawful_when_won : (c : PoolCore) (s n : ℕ) → Lawful c → s < length c.seats → n < length c.words → (word_at c n).held ≡ false → is_live (seat_at c s).stage ≡ true → is_idle (seat_at c s) ≡ true
    → Lawful (record c { words = set c.words n (held_word (word_at c n)); seats = set c.seats s (winning_seat (seat_at c s) n (word_at c n)) })
lawful_when_won c s n law here there free live rest = lawful_change c s n (winning_seat (seat_at c s) n (word_at c n)) (held_word (word_at c n)) c.warm c.awaiting c.clock law here there (fair_claim c (seat_at c s) n (word_at c n) (at_rest_of (seat_at c s) rest) (law.words n) free live)

-- what a release asks of its seat
pub record CanRelease (p : Seat) (n : ℕ) (to : Target) : Type 0 where
  pub holds : p.holds ≡ Some n
  pub inside : p.out ≡ false
  pub permit : p.permit ≡ is_warm to.state
  pub refusal : p.refusal ≡ false
  pub mark : p.mark ≡ is_awaiting to.state

pub fair_release : (c : PoolCore) (p : Seat) (n : ℕ) (w : StateWord) (to : Target) → CanRelease p n to → is_well_formed to ≡ true → w.held ≡ true
    → IsFairChange c p (idle_seat p.stage) n w (free_word to) c.warm c.awaiting
fair_release c p n w to r well was_held = record {
  sound = record { empty = λ _. (refl, refl, refl, refl); away = λ _. refl; single = omega arith };
  well_formed = well;
  others = λ m other. rw (r.holds) (grind (arith, nat_tests));
  own = rw (r.holds, was_held) (grind (arith, nat_tests));
  warmth = rw (was_held, r.permit, r.refusal) (omega arith);
  within = λ x. rw (was_held, r.permit) (λ a b. omega arith);
  waiting = rw (was_held, r.mark) (omega arith);
}

some_positive : (b : Bool) → 1 ≤ bit b → b ≡ true
some_positive true h = refl
some_positive false h = absurd (omega arith)

pub holds_it : (h : Option ℕ) (n : ℕ) → is_holding h n ≡ true → h ≡ Some n
holds_it None n e = absurd (true≢false (sym e))
holds_it (Some m) n e = let is : m ≡ n = grind (arith, nat_tests) in ap Some is

pub is_holding-self : (n : ℕ) → is_holding (Some n) n ≡ true
is_holding-self n = eq-eqb n n refl

-- a seat's number is held
pub held_by_seat : (c : PoolCore) (s n : ℕ) → Lawful c → s < length c.seats → (seat_at c s).holds ≡ Some n → (word_at c n).held ≡ true
held_by_seat c s n law here at =
    let one : bit (is_holding (seat_at c s).holds n) ≡ 1 = ap (λ (h : Option ℕ). bit (is_holding h n)) at ∙ ap bit (is_holding-self n) in
    let le = get_or-le-sum_by (λ (p : Seat). bit (is_holding p.holds n)) c.seats s (idle_seat Unmade) here in let sum = law.holders n in
    some_positive (word_at c n).held (omega arith)

within_list : (ws : List StateWord) (n : ℕ) → (get_or ws n cold_word).held ≡ true → n < length ws
within_list [] n h = absurd (true≢false (sym h))
within_list (w ∷ ws) zero h = omega arith
within_list (w ∷ ws) (suc n) h = let r = within_list ws n h in omega arith

-- it is one of the pool's
pub held_below_slots : (c : PoolCore) (n : ℕ) → (word_at c n).held ≡ true → n < length c.words
held_below_slots c n h = within_list c.words n h

pub lawful_release : (c : PoolCore) (s n : ℕ) (to : Target) → Lawful c → s < length c.seats → n < length c.words → CanRelease (seat_at c s) n to → is_well_formed to ≡ true
    → Lawful (record c { words = set c.words n (free_word to); seats = set c.seats s (idle_seat (seat_at c s).stage) })
lawful_release c s n to law here there can well = lawful_change c s n (idle_seat (seat_at c s).stage) (free_word to) c.warm c.awaiting c.clock law here there
    (fair_release c (seat_at c s) n (word_at c n) to can well (held_by_seat c s n law here can.holds))

-- a seat at rest may come to any stage
pub lawful_restage : (c : PoolCore) (s : ℕ) (st : Stage) → Lawful c → s < length c.seats → IsAtRest (seat_at c s)
    → Lawful (record c { seats = set c.seats s (idle_seat st) })
lawful_restage c s st law here r = lawful_seat_change c s (idle_seat st) c.warm c.awaiting c.clock law here record {
  sound = record { empty = λ _. (refl, refl, refl, refl); away = λ _. refl; single = omega arith };
  places = λ m. rw (r.holds) refl;
  warmth = rw (r.permit, r.refusal) refl;
  within = λ x. rw (r.permit) (λ a b. a);
  waiting = rw (r.mark) refl;
}
