-- No two seats hold one number, and a number is held exactly where a seat holds it.
use Rattle.std.proofs.Common.{◌≡◌, ℕ, zero, suc, ◌+◌, ◌<◌, ◌≤◌, Bool, true, false, List, [], ◌∷◌, length, refl, length-set, get_or, set, sym, ap, ◌∙◌, arith, get_or-set_other}
use mathlib.Core.Logic.{dite}
use native.Mathlib.Decide.{ℕ_discrete}
use Rattle.std.specs.Prelude.{Option, Some}
use Rattle.std.specs.List.{count_by}
use Rattle.std.proofs.lemmas.List.Sums.{sum_by-cons, sum_by-set, get_or-le-sum_by}
use Rattle.pool_core.specs.declared.seats.Seat.{Seat}
use Rattle.pool_core.specs.declared.seats.Stage.TheVariants.{Unmade}
use Rattle.pool_core.specs.Lawful.{Lawful}
use Rattle.pool_core.specs.PoolCore.{PoolCore, idle_seat, is_holding, seat_at, word_at}
use Rattle.pool_core.specs.StateWords.{bit}
use Rattle.pool_core.proofs.SeatChanges.{held_below_slots, held_by_seat, holds_it, is_holding-self}
use Rattle.pool_core.proofs.WordBits.{bit_le}

seat_in : (ps : List Seat) (s n : ℕ) → (get_or ps s (idle_seat Unmade)).holds ≡ Some n → s < length ps
seat_in [] s n e = absurd (cc)
seat_in (p ∷ ps) zero n e = omega arith
seat_in (p ∷ ps) (suc s) n e = let r = seat_in ps s n e in omega arith

pub one_holder : (c : PoolCore) (s t n : ℕ) → Lawful c → (seat_at c s).holds ≡ Some n → (seat_at c t).holds ≡ Some n → s ≡ t
one_holder c s t n law a b = dite (ℕ_discrete s t) (λ e. e) (λ ne.
    let here = seat_in c.seats s n a in let there = seat_in c.seats t n b in
    let ps : List Seat = c.seats in let f : Seat → Bool = λ p. is_holding p.holds n in
    let qs : List Seat = set ps s (idle_seat Unmade) in
    let one : bit (f (get_or ps s (idle_seat Unmade))) ≡ 1 = ap (λ (h : Option ℕ). bit (is_holding h n)) a ∙ ap bit (is_holding-self n) in
    let two : bit (f (get_or ps t (idle_seat Unmade))) ≡ 1 = ap (λ (h : Option ℕ). bit (is_holding h n)) b ∙ ap bit (is_holding-self n) in
    let sum : count_by f qs + bit (f (get_or ps s (idle_seat Unmade))) ≡ count_by f ps + 0 = sum_by-set (λ p. bit (f p)) ps s (idle_seat Unmade) (idle_seat Unmade) here in
    let law' : count_by f ps ≡ bit (word_at c n).held = law.holders n in
    let most = bit_le (word_at c n).held in
    let l : length qs ≡ length ps = length-set ps s (idle_seat Unmade) in
    let le : bit (f (get_or qs t (idle_seat Unmade))) ≤ count_by f qs = get_or-le-sum_by (λ p. bit (f p)) qs t (idle_seat Unmade) (omega arith) in
    let same : bit (f (get_or qs t (idle_seat Unmade))) ≡ bit (f (get_or ps t (idle_seat Unmade))) = ap (λ (p : Seat). bit (f p)) (get_or-set_other ps s t (idle_seat Unmade) (idle_seat Unmade) (λ e. ne (sym e))) in
    absurd (omega arith))

pub holds_held_word : (c : PoolCore) (s n : ℕ) → Lawful c → (seat_at c s).holds ≡ Some n → (n < length c.words) × ((word_at c n).held ≡ true)
holds_held_word c s n law a = let held = held_by_seat c s n law (seat_in c.seats s n a) a in (held_below_slots c n held, held)

-- a list in which some are counted has one that is
counted_one : (ps : List Seat) (n : ℕ) → 1 ≤ count_by (λ p. is_holding p.holds n) ps → (s : ℕ) × ((get_or ps s (idle_seat Unmade)).holds ≡ Some n)
counted_one [] n h = absurd (omega arith)
counted_one (p ∷ ps) n h = let split : (b : Bool) → is_holding p.holds n ≡ b → (s : ℕ) × ((get_or (p ∷ ps) s (idle_seat Unmade)).holds ≡ Some n) = elim [
  | true ↦ λ e. (0, holds_it p.holds n e)
  | false ↦ λ e. let none : bit (is_holding p.holds n) ≡ 0 = ap bit e in let whole = sum_by-cons (λ (x : Seat). bit (is_holding x.holds n)) p ps in let r = counted_one ps n (omega arith) in (suc (r.0), r.1)
] in split (is_holding p.holds n) refl

pub holder_of : (c : PoolCore) (n : ℕ) → Lawful c → (word_at c n).held ≡ true → (s : ℕ) × ((seat_at c s).holds ≡ Some n)
holder_of c n law held = let one : bit (word_at c n).held ≡ 1 = ap bit held in let all = law.holders n in counted_one c.seats n (omega arith)
