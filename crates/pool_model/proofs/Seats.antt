-- What an event of the core leaves to the other seats.
use Rattle.std.proofs.Common.{◌≡◌, ◌≢◌, ℕ, zero, suc, Bool, true, false, cond, not, List, [], ◌∷◌, get_or, refl, sym, ap, ◌∙◌, true≢false}
use Rattle.std.specs.Prelude.{Some, None, map, ◌==◌}
use Rattle.std.proofs.lemmas.Bool.{eqb-true, not-false, or_parts}
use Rattle.pool_core.specs.declared.events.Event.{Event}
use Rattle.pool_core.specs.declared.events.Event.TheVariants.{AwaitDown, AwaitLoad, AwaitUp, Claim, Close, Home, Join, Load, Out, Release, Split, Stamp, WarmDown, WarmLoad, WarmUp}
use Rattle.pool_core.specs.declared.seats.Seat.{Seat}
use Rattle.pool_core.specs.declared.seats.Stage.TheVariants.{Unmade, Closed}
use Rattle.pool_core.specs.PoolCore.{PoolCore, idle_seat, seat_at, is_idle, is_live, is_unmade}
use Rattle.pool_core.specs.EventEffects.{core_after, closed_seat}
use Rattle.pool_core.specs.RefusalRules.{refusal_of, seat_of, breaks_seat_rule, breaks_idle_rule}
use Rattle.pool_core.specs.Lawful.{Lawful}
use Rattle.pool_core.specs.Changes.{may_change_seat}
use Rattle.pool_core.proofs.ChangeLemmas.{changes_only}
use Rattle.pool_core.proofs.SeatChanges.{at_rest_of}
use Rattle.pool_core.proofs.LawfulSteps.{passes, away_of_unmade}

-- a seat holds and has out what it did
pub record Stays (p q : Seat) : Type 0 where
  pub holds : q.holds ≡ p.holds
  pub out : q.out ≡ p.out

same : (p q : Seat) → q ≡ p → Stays p q
same p q e = record { holds = ap (λ (s : Seat). s.holds) e; out = ap (λ (s : Seat). s.out) e }

seat_rule : (c : PoolCore) (e : Event) → refusal_of c e ≡ 0 → breaks_seat_rule c e ≡ false
seat_rule c e h = (passes (breaks_seat_rule c e) 0 _ h).0

idle_rule : (c : PoolCore) (e : Event) → refusal_of c e ≡ 0 → breaks_idle_rule c e ≡ false
idle_rule c e h = (passes (breaks_idle_rule c e) 2 _ (passes _ 1 _ (passes (breaks_seat_rule c e) 0 _ h).1).1).0

-- a seat that is split off held nothing, nor does one that is joined into another
split_holds : (c : PoolCore) (s t : ℕ) → Lawful c → refusal_of c (Split s t) ≡ 0 → (seat_at c t).holds ≡ None
split_holds c s t law ok = (law.seats t).away (away_of_unmade (seat_at c t).stage (not-false (is_unmade (seat_at c t).stage)
    (or_parts _ _ (seat_rule c (Split s t) ok)).1))

join_holds : (c : PoolCore) (s t : ℕ) → refusal_of c (Join s t) ≡ 0 → (seat_at c t).holds ≡ None
join_holds c s t ok = (at_rest_of (seat_at c t) (not-false (is_idle (seat_at c t)) (or_parts (not (is_idle (seat_at c s))) _ (idle_rule c (Join s t) ok)).1)).holds

closed_stays : (p : Seat) → Stays p (closed_seat p)
closed_stays p = let split : (b : Bool) → Stays p (cond b (record p { stage = Closed }) p) = elim [
  | true ↦ record { holds = refl; out = refl }
  | false ↦ record { holds = refl; out = refl }
] in split (is_live p.stage)

close_stays : (ps : List Seat) (s : ℕ) → Stays (get_or ps s (idle_seat Unmade)) (get_or (map closed_seat ps) s (idle_seat Unmade))
close_stays [] s = record { holds = refl; out = refl }
close_stays (p ∷ ps) zero = closed_stays p
close_stays (p ∷ ps) (suc s) = close_stays ps s

-- a seat other than the event's own keeps what it holds
pub holder_stays : (c : PoolCore) (e : Event) (s n : ℕ) → Lawful c → refusal_of c e ≡ 0 → s ≢ seat_of e → (seat_at c s).holds ≡ Some n → Stays (seat_at c s) (seat_at (core_after c e) s)
holder_stays c e s n law ok other holds =
    let split : (b : Bool) → may_change_seat e s ≡ b → Stays (seat_at c s) (seat_at (core_after c e) s) = elim [
      | true ↦ λ q. changed e ok other q
      | false ↦ λ q. same (seat_at c s) (seat_at (core_after c e) s) ((changes_only c e).seats s q)
    ] in split (may_change_seat e s) refl where
      own : (e : Event) → s ≢ seat_of e → (s == seat_of e) ≡ true → Stays (seat_at c s) (seat_at (core_after c e) s)
      own e other q = absurd (other (eqb-true s (seat_of e) q))

      changed : (e : Event) → refusal_of c e ≡ 0 → s ≢ seat_of e → may_change_seat e s ≡ true → Stays (seat_at c s) (seat_at (core_after c e) s)
      changed (Load a m) ok other q = absurd (true≢false (sym q))
      changed (Claim a m) ok other q = own (Claim a m) other q
      changed (Out a m) ok other q = own (Out a m) other q
      changed (Home a m) ok other q = own (Home a m) other q
      changed (Release a m to) ok other q = own (Release a m to) other q
      changed (Split a t) ok other q = let none : (seat_at c s).holds ≡ None = ap (λ (i : ℕ). (seat_at c i).holds) (eqb-true s t q) ∙ split_holds c a t law ok in absurd (cc)
      changed (Join a t) ok other q = let none : (seat_at c s).holds ≡ None = ap (λ (i : ℕ). (seat_at c i).holds) (eqb-true s t q) ∙ join_holds c a t ok in absurd (cc)
      changed (Close a) ok other q = close_stays c.seats s
      changed (WarmLoad a) ok other q = absurd (true≢false (sym q))
      changed (WarmUp a) ok other q = own (WarmUp a) other q
      changed (WarmDown a) ok other q = own (WarmDown a) other q
      changed (Stamp a) ok other q = absurd (true≢false (sym q))
      changed (AwaitUp a) ok other q = own (AwaitUp a) other q
      changed (AwaitDown a) ok other q = own (AwaitDown a) other q
      changed (AwaitLoad a) ok other q = absurd (true≢false (sym q))
