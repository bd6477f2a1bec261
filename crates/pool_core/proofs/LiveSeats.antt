-- Which seats are live after an event, and by how much it moves the counts.
use Rattle.std.proofs.Common.{◌≡◌, ◌≢◌, ℕ, ◌+◌, Bool, true, false, true≢false, cond, length, get_or, set, refl, sym, ap, ◌∙◌, arith, get_or-set_same, get_or-set_other}
use Rattle.std.proofs.lemmas.Bool.{eqb-false, not-false, or_parts, ltb-true}
use Rattle.pool_core.specs.declared.seats.Seat.{Seat}
use Rattle.pool_core.specs.declared.seats.Stage.{Stage}
use Rattle.pool_core.specs.declared.seats.Stage.TheVariants.{Closed, Joined, Live, Unmade}
use Rattle.pool_core.specs.declared.words.StateWord.{StateWord}
use Rattle.pool_core.specs.declared.events.Event.{Event}
use Rattle.pool_core.specs.declared.events.Event.TheVariants.{AwaitDown, AwaitLoad, AwaitUp, Claim, Close, Home, Join, Load, Out, Release, Split, Stamp, WarmDown, WarmLoad, WarmUp}
use Rattle.pool_core.specs.StateWords.{bit, held_word}
use Rattle.pool_core.specs.PoolCore.{PoolCore, idle_seat, is_live, is_unmade, seat_at, word_at}
use Rattle.pool_core.specs.EventEffects.{closed_seat, core_after, warmed_seat, winning_seat, with_seat, with_word}
use Rattle.pool_core.specs.RefusalRules.{refusal_of}
use Rattle.pool_core.specs.Lawful.{Lawful}
use Rattle.pool_core.specs.Changes.{LeavesLive, MovesByOne}
use Rattle.pool_core.proofs.LawfulSteps.{closed_at, live_in, marks_at, no_rule_broken, one_bit, warm_at}

-- a seat that is given again in the same stage stays live
stays_live : (c : PoolCore) (s : ℕ) (q : Seat) → is_live (seat_at c s).stage ≡ true → q.stage ≡ (seat_at c s).stage → is_live (get_or (set c.seats s q) s (idle_seat Unmade)).stage ≡ true
stays_live c s q live same = ap (λ (p : Seat). is_live p.stage) (get_or-set_same c.seats s q (idle_seat Unmade) (live_in c.seats s live)) ∙ ap is_live same ∙ live

-- so does one beside a seat that changes
live_beside : (c : PoolCore) (s t : ℕ) (q : Seat) → s ≢ t → is_live (seat_at c s).stage ≡ true → is_live (get_or (set c.seats t q) s (idle_seat Unmade)).stage ≡ true
live_beside c s t q ne live = ap (λ (p : Seat). is_live p.stage) (get_or-set_other c.seats t s q (idle_seat Unmade) ne) ∙ live

not_both : (st : Stage) → is_live st ≡ true → is_unmade st ≡ true → ⊥
not_both Unmade a b = true≢false (sym a)
not_both st a b = true≢false (sym b)

none_live : (p : Seat) → is_live (closed_seat p).stage ≡ false
none_live p = let split : (b : Bool) → is_live p.stage ≡ b → is_live (cond b (record p { stage = Closed }) p).stage ≡ false = elim [ true ↦ λ e. refl | false ↦ λ e. e ] in split (is_live p.stage) refl

pub leaves_live : (c : PoolCore) (e : Event) → Lawful c → refusal_of c e ≡ 0 → LeavesLive e (core_after c e)
leaves_live c (Load s n) law h = not-false _ (no_rule_broken c (Load s n) h).seat
leaves_live c (WarmLoad s) law h = not-false _ (no_rule_broken c (WarmLoad s) h).seat
leaves_live c (AwaitLoad s) law h = not-false _ (no_rule_broken c (AwaitLoad s) h).seat
leaves_live c (Stamp s) law h = not-false _ (no_rule_broken c (Stamp s) h).seat
leaves_live c (Claim s n) law h = let live = not-false _ (no_rule_broken c (Claim s n) h).seat in let w : StateWord = word_at c n in
    let split : (b : Bool) → is_live (seat_at (cond b c (with_seat (with_word c n (held_word w)) s (winning_seat (seat_at c s) n w))) s).stage ≡ true = elim [
      | true ↦ live
      | false ↦ stays_live c s (winning_seat (seat_at c s) n w) live refl
    ] in split w.held
leaves_live c (Out s n) law h = stays_live c s (record (seat_at c s) { out = true }) (not-false _ (no_rule_broken c (Out s n) h).seat) refl
leaves_live c (Home s n) law h = stays_live c s (record (seat_at c s) { out = false }) (not-false _ (no_rule_broken c (Home s n) h).seat) refl
leaves_live c (Release s n to) law h = stays_live c s (idle_seat (seat_at c s).stage) (not-false _ (no_rule_broken c (Release s n to) h).seat) refl
leaves_live c (WarmUp s) law h = stays_live c s (warmed_seat c (seat_at c s)) (not-false _ (no_rule_broken c (WarmUp s) h).seat) refl
leaves_live c (WarmDown s) law h = stays_live c s (record (seat_at c s) { permit = false; refusal = false }) (not-false _ (no_rule_broken c (WarmDown s) h).seat) refl
leaves_live c (AwaitUp s) law h = stays_live c s (record (seat_at c s) { mark = true }) (not-false _ (no_rule_broken c (AwaitUp s) h).seat) refl
leaves_live c (AwaitDown s) law h = stays_live c s (record (seat_at c s) { mark = false }) (not-false _ (no_rule_broken c (AwaitDown s) h).seat) refl
leaves_live c (Split s t) law h = let o = or_parts _ _ (no_rule_broken c (Split s t) h).seat in let o' = or_parts _ _ o.0 in
    let live : is_live (seat_at c s).stage ≡ true = not-false _ o'.0 in let unmade : is_unmade (seat_at c t).stage ≡ true = not-false _ o.1 in
    let ne : s ≢ t = λ e. not_both (seat_at c t).stage (ap (λ (k : ℕ). is_live (seat_at c k).stage) (sym e) ∙ live) unmade in
    (live_beside c s t (idle_seat Live) ne live, ap (λ (p : Seat). is_live p.stage) (get_or-set_same c.seats t (idle_seat Live) (idle_seat Unmade) (ltb-true t (length c.seats) (not-false _ o'.1))))
leaves_live c (Join s t) law h = let o = or_parts _ _ (no_rule_broken c (Join s t) h).seat in let o' = or_parts _ _ o.0 in
    let live : is_live (seat_at c s).stage ≡ true = not-false _ o'.0 in let other : is_live (seat_at c t).stage ≡ true = not-false _ o'.1 in
    (live_beside c s t (idle_seat Joined) (eqb-false s t o.1) live, ap (λ (p : Seat). is_live p.stage) (get_or-set_same c.seats t (idle_seat Joined) (idle_seat Unmade) (live_in c.seats t other)))
leaves_live c (Close s) law h = λ i. ap (λ (p : Seat). is_live p.stage) (closed_at c.seats i) ∙ none_live (seat_at c i)

pub moves_by_one : (c : PoolCore) (e : Event) → Lawful c → refusal_of c e ≡ 0 → MovesByOne e c (core_after c e)
moves_by_one c (Load s n) law h = tt
moves_by_one c (Claim s n) law h = tt
moves_by_one c (Out s n) law h = tt
moves_by_one c (Home s n) law h = tt
moves_by_one c (Release s n to) law h = tt
moves_by_one c (Split s t) law h = tt
moves_by_one c (Join s t) law h = tt
moves_by_one c (Close s) law h = tt
moves_by_one c (WarmLoad s) law h = tt
moves_by_one c (WarmUp s) law h = refl
moves_by_one c (WarmDown s) law h = let a = no_rule_broken c (WarmDown s) h in let p : Seat = seat_at c s in let live = not-false (is_live p.stage) a.seat in
    let le = warm_at c s law (live_in c.seats s live) in let one : bit p.permit + bit p.refusal ≡ 1 = one_bit p.permit p.refusal (not-false _ a.need) (law.seats s).single in omega arith
moves_by_one c (Stamp s) law h = refl
moves_by_one c (AwaitUp s) law h = refl
moves_by_one c (AwaitDown s) law h = let a = no_rule_broken c (AwaitDown s) h in let p : Seat = seat_at c s in let live = not-false (is_live p.stage) a.seat in
    let le = marks_at c s law (live_in c.seats s live) in let one : bit p.mark ≡ 1 = ap bit (not-false _ a.need) in omega arith
moves_by_one c (AwaitLoad s) law h = tt
