-- Each event that no rule refuses keeps a pool lawful.
use Rattle.std.proofs.Common.{is_none, ◌≡◌, ℕ, zero, suc, ◌+◌, ◌-◌, ◌<◌, ◌≤◌, Bool, true, false, true≢false, not, cond, ltb, ◌&&◌, ◌||◌, List, [], ◌∷◌, map, length, get_or, set, refl, sym, ap, ◌∙◌, subst, arith}
use Rattle.std.proofs.lemmas.List.Sums.{sum_by-cons, get_or-le-sum_by}
use Rattle.std.proofs.lemmas.Bool.{not-false, or_parts}
use Rattle.std.proofs.lemmas.Bool.Decides.{nat_tests}
use Rattle.std.specs.Prelude.{Option, Some, None}
use Rattle.std.specs.List.{count_by}
use Rattle.pool_core.specs.declared.events.Event.{Event}
use Rattle.pool_core.specs.declared.events.Event.TheVariants.{AwaitDown, AwaitLoad, AwaitUp, Claim, Close, Home, Join, Load, Out, Release, Split, Stamp, WarmDown, WarmLoad, WarmUp}
use Rattle.pool_core.specs.declared.seats.Seat.{Seat}
use Rattle.pool_core.specs.declared.seats.Stage.{Stage}
use Rattle.pool_core.specs.declared.seats.Stage.TheVariants.{Closed, Joined, Live, Unmade}
use Rattle.pool_core.specs.declared.words.StateWord.{StateWord}
use Rattle.pool_core.specs.declared.words.Target.{Target}
use Rattle.pool_core.specs.EventEffects.{closed_seat, core_after, core_after_claim, winning_seat, with_seat, with_word}
use Rattle.pool_core.specs.Lawful.{IsSoundSeat, Lawful, has_mark, has_permit, has_refusal}
use Rattle.pool_core.specs.PoolCore.{PoolCore, idle_seat, is_away, is_holding, is_idle, is_live, is_unmade, seat_at, word_at}
use Rattle.pool_core.specs.RefusalRules.{breaks_excess_rule, breaks_holder_rule, breaks_idle_rule, breaks_need_rule, breaks_place_rule, breaks_seat_rule, breaks_slot_rule, breaks_target_rule, refusal_of}
use Rattle.pool_core.specs.Runs.{AllAllowed, core_after_all}
use Rattle.pool_core.specs.StateWords.{bit, free_word, held_word, is_awaiting, is_warm, is_well_formed}
use Rattle.pool_core.proofs.CoreChanges.{IsFairSeatChange, lawful_seat_change}
use Rattle.pool_core.proofs.SeatChanges.{CanRelease, IsAtRest, at_rest_of, holds_it, live_away, lawful_when_won, lawful_release, lawful_restage}
use Rattle.pool_core.proofs.WordBits.{bit_le, one_or_other}

-- a rule that is not broken leaves the answer to the rules after it
pub passes : (b : Bool) (k r : ℕ) → cond b (suc k) r ≡ 0 → (b ≡ false) × (r ≡ 0)
passes true k r e = absurd (omega arith)
passes false k r e = (refl, e)

pub record BreaksNoRule (c : PoolCore) (e : Event) : Type 0 where
  pub seat : breaks_seat_rule c e ≡ false
  pub slot : breaks_slot_rule c e ≡ false
  pub idle : breaks_idle_rule c e ≡ false
  pub holder : breaks_holder_rule c e ≡ false
  pub place : breaks_place_rule c e ≡ false
  pub need : breaks_need_rule c e ≡ false
  pub excess : breaks_excess_rule c e ≡ false
  pub target : breaks_target_rule c e ≡ false

pub no_rule_broken : (c : PoolCore) (e : Event) → refusal_of c e ≡ 0 → BreaksNoRule c e
no_rule_broken c e h =
    let a = passes (breaks_seat_rule c e) 0 _ h in let b = passes (breaks_slot_rule c e) 1 _ a.1 in let d = passes (breaks_idle_rule c e) 2 _ b.1 in let f = passes (breaks_holder_rule c e) 3 _ d.1 in
    let g = passes (breaks_place_rule c e) 4 _ f.1 in let i = passes (breaks_need_rule c e) 5 _ g.1 in let j = passes (breaks_excess_rule c e) 6 _ i.1 in let k = passes (breaks_target_rule c e) 7 _ j.1 in
    record { seat = a.0; slot = b.0; idle = d.0; holder = f.0; place = g.0; need = i.0; excess = j.0; target = k.0 }

same_bit : (a b : Bool) → (a && not b) ≡ false → (b && not a) ≡ false → b ≡ a
same_bit true true e f = refl
same_bit true false e f = absurd (true≢false e)
same_bit false true e f = absurd (true≢false f)
same_bit false false e f = refl

below : (n k : ℕ) → not (ltb n k) ≡ false → n < k
below n k e = let t = not-false (ltb n k) e in grind (arith, nat_tests)

some_held : (h : Option ℕ) → is_none h ≡ false → (n : ℕ) × (h ≡ Some n)
some_held None e = absurd (true≢false e)
some_held (Some n) e = (n, refl)

pub live_in : (ps : List Seat) (s : ℕ) → is_live (get_or ps s (idle_seat Unmade)).stage ≡ true → s < length ps
live_in [] s e = absurd (true≢false (sym e))
live_in (p ∷ ps) zero e = omega arith
live_in (p ∷ ps) (suc s) e = let r = live_in ps s e in omega arith

pub away_of_unmade : (st : Stage) → is_unmade st ≡ true → is_away st ≡ true
away_of_unmade Unmade e = refl
away_of_unmade st e = absurd (true≢false (sym e))

pub empty_at_rest : (p : Seat) → IsSoundSeat p → p.holds ≡ None → IsAtRest p
empty_at_rest p s e = let t = s.empty e in record { holds = e; permit = t.1; refusal = t.2; mark = t.3 }

-- a seat that holds a number may change in all else
fair_while_holding : (c : PoolCore) (p q : Seat) (n warm awaiting : ℕ) → p.holds ≡ Some n → q.holds ≡ Some n → is_live p.stage ≡ true → q.stage ≡ p.stage → bit q.permit + bit q.refusal ≤ 1
    → warm + (bit p.permit + bit p.refusal) ≡ c.warm + (bit q.permit + bit q.refusal)
    → ((x : ℕ) → x + bit p.permit ≤ c.limit → x + bit p.permit ≤ c.warm → x + bit q.permit ≤ c.limit)
    → awaiting + bit p.mark ≡ c.awaiting + bit q.mark → IsFairSeatChange c p q warm awaiting
fair_while_holding c p q n warm awaiting hp hq live st one a b d = record {
  sound = record { empty = λ e. absurd (cc); away = λ e. absurd (live_away p.stage live (ap is_away (sym st) ∙ e)); single = one };
  places = λ m. ap (λ (h : Option ℕ). is_holding h m) (hq ∙ sym hp);
  warmth = a;
  within = b;
  waiting = d;
}

pub one_bit : (a b : Bool) → (a || b) ≡ true → bit a + bit b ≤ 1 → bit a + bit b ≡ 1
one_bit true b e h = omega arith
one_bit false true e h = refl
one_bit false false e h = absurd (true≢false (sym e))

closed_as : {X : Type 0} (f : Seat → X) (p : Seat) → ((p : Seat) → f (record p { stage = Closed }) ≡ f p) → f (closed_seat p) ≡ f p
closed_as f p same = let split : (b : Bool) → f (cond b (record p { stage = Closed }) p) ≡ f p = elim [ true ↦ same p | false ↦ refl ] in split (is_live p.stage)

closed_count : (f : Seat → Bool) (ps : List Seat) → ((p : Seat) → f (record p { stage = Closed }) ≡ f p) → count_by f (map closed_seat ps) ≡ count_by f ps
closed_count f [] same = refl
closed_count f (p ∷ ps) same = sum_by-cons (λ x. bit (f x)) (closed_seat p) (map closed_seat ps) ∙ (let a : bit (f (closed_seat p)) ≡ bit (f p) = ap bit (closed_as f p same) in let b = closed_count f ps same in let d = sum_by-cons (λ x. bit (f x)) p ps in
    let g : bit (f (closed_seat p)) + count_by f (map closed_seat ps) ≡ count_by f (p ∷ ps) = omega arith in g)

pub closed_at : (ps : List Seat) (s : ℕ) → get_or (map closed_seat ps) s (idle_seat Unmade) ≡ closed_seat (get_or ps s (idle_seat Unmade))
closed_at [] s = refl
closed_at (p ∷ ps) zero = refl
closed_at (p ∷ ps) (suc s) = closed_at ps s

closed_sound : (p : Seat) → IsSoundSeat p → IsSoundSeat (closed_seat p)
closed_sound p o = let split : (b : Bool) → IsSoundSeat (cond b (record p { stage = Closed }) p) = elim [ true ↦ record { empty = o.empty; away = λ e. absurd (true≢false (sym e)); single = o.single } | false ↦ o ] in split (is_live p.stage)

pub warm_at : (c : PoolCore) (s : ℕ) → Lawful c → s < length c.seats → bit (seat_at c s).permit + bit (seat_at c s).refusal ≤ c.warm
warm_at c s law here = let a = get_or-le-sum_by (λ (p : Seat). bit p.permit) c.seats s (idle_seat Unmade) here in let b = get_or-le-sum_by (λ (p : Seat). bit p.refusal) c.seats s (idle_seat Unmade) here in let w = law.warm in omega arith

pub marks_at : (c : PoolCore) (s : ℕ) → Lawful c → s < length c.seats → bit (seat_at c s).mark ≤ c.awaiting
marks_at c s law here = let a = get_or-le-sum_by (λ (p : Seat). bit p.mark) c.seats s (idle_seat Unmade) here in let w = law.awaiting in omega arith

can_release : (p : Seat) (n : ℕ) (to : Target) → p.holds ≡ Some n → p.out ≡ false → ((is_warm to.state && not p.permit) || (is_awaiting to.state && not p.mark)) ≡ false
    → (p.refusal || (p.permit && not (is_warm to.state)) || (p.mark && not (is_awaiting to.state))) ≡ false → CanRelease p n to
can_release p n to at inside lack more = let l = or_parts _ _ lack in let m = or_parts _ _ more in let m' = or_parts _ _ m.0 in
    record { holds = at; inside = inside; permit = same_bit _ _ l.0 m'.1; refusal = m'.0; mark = same_bit _ _ l.1 m.1 }

lawful_claim : (c : PoolCore) (s n : ℕ) → Lawful c → s < length c.seats → n < length c.words → is_live (seat_at c s).stage ≡ true → is_idle (seat_at c s) ≡ true → Lawful (core_after_claim c s n)
lawful_claim c s n law here there live rest = let w : StateWord = word_at c n in
    let split : (b : Bool) → w.held ≡ b → Lawful (cond b c (record c { words = set c.words n (held_word w); seats = set c.seats s (winning_seat (seat_at c s) n w) })) = elim [
      | true ↦ λ e. law
      | false ↦ λ e. lawful_when_won c s n law here there e live rest
    ] in split w.held refl

-- a word that was read below the limit leaves room for one more
room_for : (x w l : ℕ) → x ≤ w → x ≤ l → x + bit (ltb w l) ≤ l
room_for x w l a b = let split : (t : Bool) → ltb w l ≡ t → x + bit t ≤ l = elim [ true ↦ λ e. let less : w < l = grind (arith, nat_tests) in omega arith | false ↦ λ e. omega arith ] in split (ltb w l) refl

pub lawful_after : (c : PoolCore) (e : Event) → Lawful c → refusal_of c e ≡ 0 → Lawful (core_after c e)
lawful_after c (Load s n) law h = law
lawful_after c (Claim s n) law h = let a = no_rule_broken c (Claim s n) h in let live = not-false (is_live (seat_at c s).stage) a.seat in
    lawful_claim c s n law (live_in c.seats s live) (below n _ a.slot) live (not-false _ a.idle)
lawful_after c (Out s n) law h = let a = no_rule_broken c (Out s n) h in let p : Seat = seat_at c s in let live = not-false (is_live p.stage) a.seat in let at = holds_it p.holds n (not-false _ a.holder) in
    lawful_seat_change c s (record p { out = true }) c.warm c.awaiting c.clock law (live_in c.seats s live) (fair_while_holding c p (record p { out = true }) n c.warm c.awaiting at at live refl (law.seats s).single refl (λ x u v. u) refl)
lawful_after c (Home s n) law h = let a = no_rule_broken c (Home s n) h in let p : Seat = seat_at c s in let live = not-false (is_live p.stage) a.seat in let at = holds_it p.holds n (not-false _ a.holder) in
    lawful_seat_change c s (record p { out = false }) c.warm c.awaiting c.clock law (live_in c.seats s live) (fair_while_holding c p (record p { out = false }) n c.warm c.awaiting at at live refl (law.seats s).single refl (λ x u v. u) refl)
lawful_after c (Release s n to) law h = let a = no_rule_broken c (Release s n to) h in let p : Seat = seat_at c s in let live = not-false (is_live p.stage) a.seat in
    lawful_release c s n to law (live_in c.seats s live) (below n _ a.slot) (can_release p n to (holds_it p.holds n (not-false _ a.holder)) a.place a.need a.excess) (not-false (is_well_formed to) a.target)
lawful_after c (Split s t) law h = let a = no_rule_broken c (Split s t) h in let p : Seat = seat_at c t in let o = or_parts _ _ a.seat in let o' = or_parts _ _ o.0 in
    lawful_restage c t Live law (below t _ o'.1) (empty_at_rest p (law.seats t) ((law.seats t).away (away_of_unmade p.stage (not-false _ o.1))))
lawful_after c (Join s t) law h = let a = no_rule_broken c (Join s t) h in let p : Seat = seat_at c t in let o = or_parts _ _ a.seat in let o' = or_parts _ _ o.0 in let live = not-false (is_live p.stage) o'.1 in
    lawful_restage c t Joined law (live_in c.seats t live) (at_rest_of p (not-false _ (or_parts _ _ a.idle).1))
lawful_after c (Close s) law h = record {
  holders = λ n. closed_count (λ p. is_holding p.holds n) c.seats (λ p. refl) ∙ law.holders n;
  seats = λ t. subst IsSoundSeat (sym (closed_at c.seats t)) (closed_sound (seat_at c t) (law.seats t));
  warm = rw (closed_count has_permit c.seats (λ p. refl), closed_count has_refusal c.seats (λ p. refl)) law.warm;
  within = rw (closed_count has_permit c.seats (λ p. refl)) law.within;
  awaiting = rw (closed_count has_mark c.seats (λ p. refl)) law.awaiting;
  words = law.words;
}
lawful_after c (WarmLoad s) law h = law
lawful_after c (WarmUp s) law h = let a = no_rule_broken c (WarmUp s) h in let p : Seat = seat_at c s in let live = not-false (is_live p.stage) a.seat in let at = some_held p.holds a.holder in
    let b : Bool = ltb c.warm c.limit in let m = or_parts p.permit p.refusal a.excess in let q : Seat = record p { permit = b; refusal = not b } in let one = one_or_other b in let low = bit_le b in
    let no_permit : bit p.permit ≡ 0 = ap bit m.0 in let no_refusal : bit p.refusal ≡ 0 = ap bit m.1 in
    lawful_seat_change c s q (c.warm + 1) c.awaiting c.clock law (live_in c.seats s live) (fair_while_holding c p q at.0 (c.warm + 1) c.awaiting at.1 at.1 live refl (omega arith) (omega arith) (λ x u v. let lim = room_for x c.warm c.limit (omega arith) (omega arith) in lim) refl)
lawful_after c (WarmDown s) law h = let a = no_rule_broken c (WarmDown s) h in let p : Seat = seat_at c s in let live = not-false (is_live p.stage) a.seat in let at = some_held p.holds a.holder in
    let here = live_in c.seats s live in let q : Seat = record p { permit = false; refusal = false } in let le = warm_at c s law here in
    let one : bit p.permit + bit p.refusal ≡ 1 = one_bit p.permit p.refusal (not-false _ a.need) (law.seats s).single in
    lawful_seat_change c s q (c.warm - 1) c.awaiting c.clock law here (fair_while_holding c p q at.0 (c.warm - 1) c.awaiting at.1 at.1 live refl (omega arith) (omega arith) (λ x u v. omega arith) refl)
lawful_after c (Stamp s) law h = record { holders = law.holders; seats = law.seats; warm = law.warm; within = law.within; awaiting = law.awaiting; words = law.words }
lawful_after c (AwaitUp s) law h = let a = no_rule_broken c (AwaitUp s) h in let p : Seat = seat_at c s in let live = not-false (is_live p.stage) a.seat in let at = some_held p.holds a.holder in
    let q : Seat = record p { mark = true } in let none : bit p.mark ≡ 0 = ap bit a.excess in
    lawful_seat_change c s q c.warm (c.awaiting + 1) c.clock law (live_in c.seats s live) (fair_while_holding c p q at.0 c.warm (c.awaiting + 1) at.1 at.1 live refl (law.seats s).single refl (λ x u v. u) (omega arith))
lawful_after c (AwaitDown s) law h = let a = no_rule_broken c (AwaitDown s) h in let p : Seat = seat_at c s in let live = not-false (is_live p.stage) a.seat in let at = some_held p.holds a.holder in
    let here = live_in c.seats s live in let q : Seat = record p { mark = false } in let le = marks_at c s law here in let one : bit p.mark ≡ 1 = ap bit (not-false _ a.need) in
    lawful_seat_change c s q c.warm (c.awaiting - 1) c.clock law here (fair_while_holding c p q at.0 c.warm (c.awaiting - 1) at.1 at.1 live refl (law.seats s).single refl (λ x u v. u) (omega arith))
lawful_after c (AwaitLoad s) law h = law

-- the pool that a claim of a free slot leaves
pub claim_is : (c : PoolCore) (s n : ℕ) (p : Seat) (w : StateWord) (ps : List Seat) (ws : List StateWord) → p ≡ seat_at c s → w ≡ word_at c n → w.held ≡ false
    → ps ≡ set c.seats s (winning_seat p n w) → ws ≡ set c.words n (held_word w)
    → record c { words = ws; seats = ps } ≡ core_after c (Claim s n)
claim_is c s n p w ps ws p_is w_is free ps_is ws_is =
    let v : StateWord = word_at c n in let x : PoolCore = with_seat (with_word c n (held_word v)) s (winning_seat (seat_at c s) n v) in
    let unheld : v.held ≡ false = ap (λ (y : StateWord). y.held) (sym w_is) ∙ free in
    let words : ws ≡ set c.words n (held_word v) = ws_is ∙ ap (λ (y : StateWord). set c.words n (held_word y)) w_is in
    let seats : ps ≡ set c.seats s (winning_seat (seat_at c s) n v) = ps_is ∙ ap (λ (q : Seat). set c.seats s (winning_seat q n w)) p_is ∙ ap (λ (y : StateWord). set c.seats s (winning_seat (seat_at c s) n y)) w_is in
    let is : record c { words = ws; seats = ps } ≡ x =
    λ i. record c { words = words i; seats = seats i } in
    is ∙ ap (λ (b : Bool). cond b c x) (sym unheld)

-- and the one that a release leaves
pub release_is : (c : PoolCore) (s n : ℕ) (to : Target) (p : Seat) (ps : List Seat) (ws : List StateWord) → p ≡ seat_at c s → ps ≡ set c.seats s (idle_seat p.stage) → ws ≡ set c.words n (free_word to)
    → record c { words = ws; seats = ps } ≡ core_after c (Release s n to)
release_is c s n to p ps ws p_is ps_is ws_is =
    let seats : ps ≡ set c.seats s (idle_seat (seat_at c s).stage) = ps_is ∙ ap (λ (q : Seat). set c.seats s (idle_seat q.stage)) p_is in
    λ i. record c { words = ws_is i; seats = seats i }

-- and the one where one seat becomes what f says
pub seat_change_is : (c : PoolCore) (s : ℕ) (p : Seat) (f : Seat → Seat) (ps : List Seat) → p ≡ seat_at c s → ps ≡ set c.seats s (f p) → record c { seats = ps } ≡ with_seat c s (f (seat_at c s))
seat_change_is c s p f ps p_is ps_is =
    let seats : ps ≡ set c.seats s (f (seat_at c s)) = ps_is ∙ ap (λ (q : Seat). set c.seats s (f q)) p_is in
    λ i. record c { seats = seats i }

-- what is the pool after an event is lawful
pub lawful_after_is : (c d c' : PoolCore) (e : Event) → Lawful c → c' ≡ c → refusal_of c' e ≡ 0 → d ≡ core_after c e → Lawful d
lawful_after_is c d c' e law same allowed to = subst Lawful (sym to) (lawful_after c e law (ap (λ (x : PoolCore). refusal_of x e) (sym same) ∙ allowed))

-- after a list of events too
pub lawful_after_all : (c : PoolCore) (es : List Event) → Lawful c → AllAllowed c es → Lawful (core_after_all c es)
lawful_after_all c [] law all = law
lawful_after_all c (e ∷ es) law all = lawful_after_all (core_after c e) es (lawful_after c e law all.0) all.1
