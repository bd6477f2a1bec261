-- A value that is out makes no difference to other events.
use Rattle.std.proofs.Common.{◌≡◌, ◌≢◌, ℕ, zero, suc, ◌+◌, ◌-◌, Bool, true, false, true≢false, not, cond, ltb, ◌||◌, List, [], ◌∷◌, map, length, get_or, set, refl, sym, ap, ◌∙◌, length-set}
use Rattle.std.specs.Prelude.{Option, Some, None, is_some}
use Rattle.std.proofs.lemmas.Bool.{eqb-false, not-false, or_parts}
use Rattle.pool_core.specs.declared.words.StateWord.{StateWord}
use Rattle.pool_core.specs.declared.seats.Seat.{Seat}
use Rattle.pool_core.specs.declared.seats.Stage.TheVariants.{Unmade, Live, Joined, Closed}
use Rattle.pool_core.specs.declared.events.Event.TheVariants.{AwaitDown, AwaitLoad, AwaitUp, Claim, Close, Home, Join, Load, Out, Release, Split, Stamp, WarmDown, WarmLoad, WarmUp}
use Rattle.pool_core.specs.StateWords.{held_word, free_word}
use Rattle.pool_core.specs.PoolCore.{PoolCore, seat_at, word_at, idle_seat, is_live, is_idle, is_unmade, is_away}
use Rattle.pool_core.specs.EventEffects.{core_after, closed_seat, warmed_seat, winning_seat, with_seat, with_word}
use Rattle.pool_core.specs.RefusalRules.{breaks_place_rule, breaks_need_rule, breaks_excess_rule}
use Rattle.pool_core.specs.Changes.{OutChangesNothingElse}
use Rattle.pool_core.proofs.LawfulSteps.{away_of_unmade, no_rule_broken}

abbrev put_out : Seat → Seat
put_out p = record p { out = true }

-- the seats, with the value of one out
abbrev outed : List Seat → ℕ → List Seat
outed ps s = set ps s (put_out (get_or ps s (idle_seat Unmade)))

record IsButOut (p q : Seat) (s t : ℕ) : Type 0 where
  pub flag : Bool
  pub is : q ≡ record p { out = flag }
  pub other : t ≢ s → flag ≡ p.out

seat_outed : (ps : List Seat) (s t : ℕ) → IsButOut (get_or ps t (idle_seat Unmade)) (get_or (outed ps s) t (idle_seat Unmade)) s t
seat_outed [] s t = record { flag = false; is = refl; other = λ _. refl }
seat_outed (p ∷ ps) zero zero = record { flag = true; is = refl; other = λ ne. absurd (ne refl) }
seat_outed (p ∷ ps) zero (suc t) = record { flag = (get_or ps t (idle_seat Unmade)).out; is = refl; other = λ _. refl }
seat_outed (p ∷ ps) (suc s) zero = record { flag = p.out; is = refl; other = λ _. refl }
seat_outed (p ∷ ps) (suc s) (suc t) = let r = seat_outed ps s t in record { flag = r.flag; is = r.is; other = λ ne. r.other (λ e. ne (ap suc e)) }

same_when_apart : (ps : List Seat) (s t : ℕ) → t ≢ s → get_or (outed ps s) t (idle_seat Unmade) ≡ get_or ps t (idle_seat Unmade)
same_when_apart ps s t ne = let o = seat_outed ps s t in let p : Seat = get_or ps t (idle_seat Unmade) in o.is ∙ (λ i. record p { out = o.other ne i })

-- another seat is written before or after
outed_apart : (ps : List Seat) (s t : ℕ) (q : Seat) → t ≢ s → set (outed ps s) t q ≡ outed (set ps t q) s
outed_apart [] s t q ne = refl
outed_apart (p ∷ ps) zero zero q ne = absurd (ne refl)
outed_apart (p ∷ ps) zero (suc t) q ne = refl
outed_apart (p ∷ ps) (suc s) zero q ne = refl
outed_apart (p ∷ ps) (suc s) (suc t) q ne = ap (λ (l : List Seat). p ∷ l) (outed_apart ps s t q (λ e. ne (ap suc e)))

-- any seat is changed in all but where its value is
outed_with : (u : Seat → Seat) (ps : List Seat) (s t : ℕ) → ((p : Seat) → u (put_out p) ≡ put_out (u p))
    → set (outed ps s) t (u (get_or (outed ps s) t (idle_seat Unmade))) ≡ outed (set ps t (u (get_or ps t (idle_seat Unmade)))) s
outed_with u [] s t same = refl
outed_with u (p ∷ ps) zero zero same = ap (λ (q : Seat). q ∷ ps) (same p)
outed_with u (p ∷ ps) zero (suc t) same = refl
outed_with u (p ∷ ps) (suc s) zero same = refl
outed_with u (p ∷ ps) (suc s) (suc t) same = ap (λ (l : List Seat). p ∷ l) (outed_with u ps s t same)

closed_out : (p : Seat) → closed_seat (put_out p) ≡ put_out (closed_seat p)
closed_out p = let split : (b : Bool) → cond b (record (put_out p) { stage = Closed }) (put_out p) ≡ put_out (cond b (record p { stage = Closed }) p) = elim [ true ↦ refl | false ↦ refl ] in split (is_live p.stage)

outed_closed : (ps : List Seat) (s : ℕ) → map closed_seat (outed ps s) ≡ outed (map closed_seat ps) s
outed_closed [] s = refl
outed_closed (p ∷ ps) zero = ap (λ (q : Seat). q ∷ map closed_seat ps) (closed_out p)
outed_closed (p ∷ ps) (suc s) = ap (λ (l : List Seat). closed_seat p ∷ l) (outed_closed ps s)

-- an idle seat holds nothing
idle_holds_none : (p : Seat) (n : ℕ) → is_idle p ≡ true → p.holds ≡ Some n → ⊥
idle_holds_none p n idle h = true≢false (sym idle ∙ rw h refl)

last_not_false : (a b d : Bool) → (a || b || not d) ≡ false → d ≡ true
last_not_false true b d e = absurd (true≢false e)
last_not_false false true d e = absurd (true≢false e)
last_not_false false false d e = not-false d e

some_is_held : (n : ℕ) (h : Option ℕ) → h ≡ Some n → h ≡ None → ⊥
some_is_held n h a b = true≢false (ap is_some (sym a ∙ b))

abbrev with_seats : PoolCore → List Seat → PoolCore
with_seats c ps = record c { seats = ps }

pub out_changes_nothing_else : OutChangesNothingElse
out_changes_nothing_else c s n (Load t m) law holds other h = (rw ((seat_outed c.seats s t).is, breaks_place_rule, breaks_need_rule, breaks_excess_rule) h, refl)
out_changes_nothing_else c s n (WarmLoad t) law holds other h = (rw ((seat_outed c.seats s t).is, breaks_place_rule, breaks_need_rule, breaks_excess_rule) h, refl)
out_changes_nothing_else c s n (AwaitLoad t) law holds other h = (rw ((seat_outed c.seats s t).is, breaks_place_rule, breaks_need_rule, breaks_excess_rule) h, refl)
out_changes_nothing_else c s n (Stamp t) law holds other h = (rw ((seat_outed c.seats s t).is, breaks_place_rule, breaks_need_rule, breaks_excess_rule) h, refl)
out_changes_nothing_else c s n (WarmUp t) law holds other h =
    (rw ((seat_outed c.seats s t).is, breaks_place_rule, breaks_need_rule, breaks_excess_rule) h, ap (λ (ps : List Seat). record c { seats = ps; warm = c.warm + 1 }) (outed_with (λ p. warmed_seat c p) c.seats s t (λ p. refl)))
out_changes_nothing_else c s n (WarmDown t) law holds other h =
    (rw ((seat_outed c.seats s t).is, breaks_place_rule, breaks_need_rule, breaks_excess_rule) h, ap (λ (ps : List Seat). record c { seats = ps; warm = c.warm - 1 }) (outed_with (λ p. record p { permit = false; refusal = false }) c.seats s t (λ p. refl)))
out_changes_nothing_else c s n (AwaitUp t) law holds other h =
    (rw ((seat_outed c.seats s t).is, breaks_place_rule, breaks_need_rule, breaks_excess_rule) h, ap (λ (ps : List Seat). record c { seats = ps; awaiting = c.awaiting + 1 }) (outed_with (λ p. record p { mark = true }) c.seats s t (λ p. refl)))
out_changes_nothing_else c s n (AwaitDown t) law holds other h =
    (rw ((seat_outed c.seats s t).is, breaks_place_rule, breaks_need_rule, breaks_excess_rule) h, ap (λ (ps : List Seat). record c { seats = ps; awaiting = c.awaiting - 1 }) (outed_with (λ p. record p { mark = false }) c.seats s t (λ p. refl)))
out_changes_nothing_else c s n (Close t) law holds other h = (rw ((seat_outed c.seats s t).is, breaks_place_rule, breaks_need_rule, breaks_excess_rule) h, ap (with_seats c) (outed_closed c.seats s))
out_changes_nothing_else c s n (Out t m) law holds other h = let ne = eqb-false t s other in let o = seat_outed c.seats s t in
    (rw (same_when_apart c.seats s t ne, breaks_place_rule, breaks_need_rule, breaks_excess_rule) h, ap (with_seats c) (outed_with (λ p. record p { out = true }) c.seats s t (λ p. refl)))
out_changes_nothing_else c s n (Home t m) law holds other h = let ne = eqb-false t s other in let o = seat_outed c.seats s t in
    (rw (same_when_apart c.seats s t ne, breaks_place_rule, breaks_need_rule, breaks_excess_rule) h, ap (with_seats c) (ap (λ (q : Seat). set (outed c.seats s) t (record q { out = false })) o.is ∙ outed_apart c.seats s t (record (seat_at c t) { out = false }) ne))
out_changes_nothing_else c s n (Release t m to) law holds other h = let ne = eqb-false t s other in let o = seat_outed c.seats s t in
    (rw (same_when_apart c.seats s t ne, breaks_place_rule, breaks_need_rule, breaks_excess_rule) h, ap (with_seats (record c { words = set c.words m (free_word to) })) (ap (λ (q : Seat). set (outed c.seats s) t (idle_seat q.stage)) o.is ∙ outed_apart c.seats s t (idle_seat (seat_at c t).stage) ne))
out_changes_nothing_else c s n (Claim t m) law holds other h = let o = seat_outed c.seats s t in let rest = not-false (is_idle (seat_at c t)) (no_rule_broken c (Claim t m) h).idle in
    let ne : t ≢ s = λ e. idle_holds_none (seat_at c t) n rest (ap (λ (k : ℕ). (seat_at c k).holds) e ∙ holds) in let w : StateWord = word_at c m in
    let d : PoolCore = core_after c (Out s n) in
    let free : with_seat (with_word d m (held_word w)) t (winning_seat (seat_at d t) m w) ≡ core_after (with_seat (with_word c m (held_word w)) t (winning_seat (seat_at c t) m w)) (Out s n) =
    ap (with_seats (record c { words = set c.words m (held_word w) })) (ap (λ (q : Seat). set (outed c.seats s) t (winning_seat q m w)) o.is ∙ outed_apart c.seats s t (winning_seat (seat_at c t) m w) ne) in
    let split : (b : Bool) → cond b d (with_seat (with_word d m (held_word w)) t (winning_seat (seat_at d t) m w)) ≡ core_after (cond b c (with_seat (with_word c m (held_word w)) t (winning_seat (seat_at c t) m w))) (Out s n) = elim [ true ↦ refl | false ↦ free ] in
    (rw (o.is, breaks_place_rule, breaks_need_rule, breaks_excess_rule) h, split w.held)
out_changes_nothing_else c s n (Split t u) law holds other h = let o = seat_outed c.seats s t in let o' = seat_outed c.seats s u in
    let unmade = (no_rule_broken c (Split t u) h).seat in
    let ne : u ≢ s = λ e. some_is_held n (seat_at c s).holds holds ((law.seats s).away (ap (λ (k : ℕ). is_away (seat_at c k).stage) (sym e) ∙ away_of_unmade (seat_at c u).stage (last_not_false (not (is_live (seat_at c t).stage)) (not (ltb u (length c.seats))) (is_unmade (seat_at c u).stage) unmade))) in
    (rw (o.is, o'.is, length-set c.seats s (put_out (seat_at c s))) h, ap (with_seats c) (outed_apart c.seats s u (idle_seat Live) ne))
out_changes_nothing_else c s n (Join t u) law holds other h = let o = seat_outed c.seats s t in let o' = seat_outed c.seats s u in
    let rest = not-false (is_idle (seat_at c u)) ((or_parts (not (is_idle (seat_at c t))) (not (is_idle (seat_at c u))) (no_rule_broken c (Join t u) h).idle).1) in
    let ne : u ≢ s = λ e. idle_holds_none (seat_at c u) n rest (ap (λ (k : ℕ). (seat_at c k).holds) e ∙ holds) in
    (rw (o.is, o'.is) h, ap (with_seats c) (outed_apart c.seats s u (idle_seat Joined) ne))
