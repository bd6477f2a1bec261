-- Slots that are sorted by rank are in order.
use Rattle.std.proofs.Common.{◌≡◌, ◌⊎◌, inl, inr, ⊎_elim, ℕ, zero, suc, ◌+◌, ◌-◌, ◌<◌, ◌≤◌, ◌==◌, Bool, false, cond, Some, None, is_some, unwrap_or, List, [], ◌∷◌, ◌++◌, length, map, take, refl, ap, sym, ◌∙◌, subst, arith}
use Rattle.std.specs.Prelude.{slice_index_or}
use Rattle.std.specs.List.{All, count_by, refill}
use Rattle.std.specs.List.Sorted.{IsPermutation}
use Rattle.std.specs.Ordering.{nat_cmp, is_lt, ordering_then, MatchOrdering}
use Rattle.std.specs.declared.cmp.Ordering.{Ordering}
use Rattle.std.specs.declared.cmp.Ordering.TheVariants.{Less, Equal, Greater}
use Rattle.std.proofs.lemmas.Cmp.{ranked}
use Rattle.std.proofs.lemmas.Bool.{true≢false, cases_lt}
use Rattle.std.proofs.lemmas.List.{get_or-map, length-map, get_or_past, take_at, drop_all}
use Rattle.std.proofs.lemmas.List.Sums.{sum_by-cons}
use Rattle.std.proofs.lemmas.List.Sorted.{All-permutation, sum_by-IsPermutation}
use Rattle.pool_core.specs.StateWords.{bit, unpacked}
use Rattle.affinity_index.specs.declared.ranks.Ranked.{Ranked}
use Rattle.affinity_index.specs.Orders.{IsOrder, Precedes, seen_rank, rank_of}
use Rattle.affinity_index.specs.Rankings.{is_of, number_of}

abbrev pub IsUpTo : Ranked → Ranked → Type 0
IsUpTo a b = (a.rank < b.rank) ⊎ ((a.rank ≡ b.rank) × (a.number ≤ b.number))

from_order : (r s : Ordering) (P Q : Type 0) (x y : ℕ) → MatchOrdering r (y < x) (y ≡ x) (x < y) → (is_lt s ≡ false → Q) → is_lt (ordering_then r s) ≡ false → (x < y) ⊎ ((x ≡ y) × Q)
from_order Less s P Q x y m k h = absurd (true≢false h)
from_order Equal s P Q x y m k h = inr (sym m, k h)
from_order Greater s P Q x y m k h = inl m

not_below : (r : Ordering) (x y : ℕ) → MatchOrdering r (y < x) (y ≡ x) (x < y) → is_lt r ≡ false → x ≤ y
not_below Less x y m h = absurd (true≢false h)
not_below Equal x y m h = omega (arith, m)
not_below Greater x y m h = omega (arith, m)

pub up_to_next : (a b : Ranked) → is_lt (ordering_then (nat_cmp b.rank a.rank) (nat_cmp b.number a.number)) ≡ false → IsUpTo a b
up_to_next a b h = from_order (nat_cmp b.rank a.rank) (nat_cmp b.number a.number) (⊥) (a.number ≤ b.number) a.rank b.rank (ranked b.rank a.rank _ refl) (not_below (nat_cmp b.number a.number) a.number b.number (ranked b.number a.number _ refl)) h

up_to_trans : (a b c : Ranked) → IsUpTo a b → IsUpTo b c → IsUpTo a c
up_to_trans a b c = ⊎_elim (λ p. ⊎_elim (λ q. inl (omega arith)) (λ q. inl (omega arith))) (λ p. ⊎_elim (λ q. inl (omega arith)) (λ q. inr (omega arith, omega arith)))

abbrev pub IsAscending : List Ranked → Type 0
IsAscending es = (k : ℕ) (d : Ranked) → 0 ≤ k → k + 1 < length es → is_lt (ordering_then (nat_cmp (slice_index_or es (k + 1) d).rank (slice_index_or es k d).rank) (nat_cmp (slice_index_or es (k + 1) d).number (slice_index_or es k d).number)) ≡ false

up_to_later : (es : List Ranked) (d : Ranked) → IsAscending es → (j m : ℕ) → j + suc m < length es → IsUpTo (slice_index_or es j d) (slice_index_or es (j + suc m) d)
up_to_later es d sorted j zero h = subst (λ (k : ℕ). IsUpTo (slice_index_or es j d) (slice_index_or es k d)) (let e : j + 1 ≡ j + suc zero = omega arith in e) (up_to_next _ _ (sorted j d (omega arith) (omega arith)))
up_to_later es d sorted j (suc m) h =
    let here = up_to_later es d sorted j m (omega arith) in
    let next = up_to_next (slice_index_or es (j + suc m) d) (slice_index_or es (j + suc m + 1) d) (sorted (j + suc m) d (omega arith) (omega arith)) in
    subst (λ (k : ℕ). IsUpTo (slice_index_or es j d) (slice_index_or es k d)) (let e : j + suc m + 1 ≡ j + suc (suc m) = omega arith in e) (up_to_trans _ _ _ here next)

count-map : (n : ℕ) (es : List Ranked) → count_by (λ m. m == n) (map number_of es) ≡ count_by (is_of n) es
count-map n [] = refl
count-map n (e ∷ es) = sum_by-cons (λ (m : ℕ). cond (m == n) 1 0) e.number (map number_of es) ∙ ap (λ (k : ℕ). cond (e.number == n) 1 0 + k) (count-map n es) ∙ sym (sum_by-cons (λ (x : Ranked). cond (is_of n x) 1 0) e es)

in_place : (r s n m : ℕ) (a b : Ranked) → r ≡ a.rank → s ≡ b.rank → n ≡ a.number → m ≡ b.number → IsUpTo a b → (r < s) ⊎ ((r ≡ s) × (n ≤ m))
in_place r s n m a b p q n_is m_is = ⊎_elim (λ h. inl (omega arith)) (λ h. inr (omega arith, omega arith))

placed : (seen : List ℕ) (tag : ℕ) (full : Bool) (n m : ℕ) (a b : Ranked) → n ≡ a.number → m ≡ b.number
    → seen_rank seen tag full a.number ≡ Some a.rank → seen_rank seen tag full b.number ≡ Some b.rank → IsUpTo a b → Precedes seen tag full n m
placed seen tag full n m a b n_is m_is a_rank b_rank up =
    let p : unwrap_or (seen_rank seen tag full n) 0 ≡ a.rank = ap (λ (k : ℕ). unwrap_or (seen_rank seen tag full k) 0) n_is ∙ ap (λ o. unwrap_or o 0) a_rank in
    let q : unwrap_or (seen_rank seen tag full m) 0 ≡ b.rank = ap (λ (k : ℕ). unwrap_or (seen_rank seen tag full k) 0) m_is ∙ ap (λ o. unwrap_or o 0) b_rank in
    in_place _ _ n m a b p q n_is m_is up

pub sorted_is_order : (seen : List ℕ) (tag : ℕ) (full : Bool) (es fs : List Ranked) → IsPermutation es fs → IsAscending fs
    → All (λ e. seen_rank seen tag full e.number ≡ Some e.rank) es → ((n : ℕ) → count_by (is_of n) es ≡ bit (is_some (seen_rank seen tag full n)))
    → IsOrder seen tag full (map number_of fs)
sorted_is_order seen tag full es fs same sorted each once =
    let d : Ranked = record { rank = 0; number = 0 } in
    let all = All-permutation (λ e. seen_rank seen tag full e.number ≡ Some e.rank) es fs same each in
    record {
      once = λ n. count-map n fs ∙ sum_by-IsPermutation (λ e. cond (is_of n e) 1 0) es fs same ∙ once n;
      ranked = λ j k less within.
          let k_in : k < length fs = omega (arith, length-map fs number_of) in
          let j_in : j < length fs = omega arith in
          let gap : j + suc (k - suc j) ≡ k = omega arith in
          let up : IsUpTo (slice_index_or fs j d) (slice_index_or fs k d) = subst (λ (m : ℕ). IsUpTo (slice_index_or fs j d) (slice_index_or fs m d)) gap (up_to_later fs d sorted j (k - suc j) (omega arith)) in
          placed seen tag full _ _ _ _ (get_or-map number_of fs j d 0 j_in) (get_or-map number_of fs k d 0 k_in) (all j d j_in) (all k d k_in) up;
    }

not_seen : (tag : ℕ) (full : Bool) (word r : ℕ) → word ≡ 1 → rank_of tag full (unpacked word) ≡ Some r → ⊥
not_seen tag full word r past has = let e : None ≡ Some r = ap (λ (x : ℕ). rank_of tag full (unpacked x)) (sym past) ∙ has in cc

pub ranked_is_within : (seen : List ℕ) (tag : ℕ) (full : Bool) (n r : ℕ) → seen_rank seen tag full n ≡ Some r → n < length seen
ranked_is_within seen tag full n r has = ⊎_elim (λ h. h) (λ past. absurd (not_seen tag full (slice_index_or seen n 1) r (get_or_past seen n 1 past) has)) (cases_lt n (length seen))

pub sorted_is_within : (seen : List ℕ) (tag : ℕ) (full : Bool) (es fs : List Ranked) → IsPermutation es fs → All (λ e. seen_rank seen tag full e.number ≡ Some e.rank) es → All (λ n. n < length seen) (map number_of fs)
sorted_is_within seen tag full es fs same each k d within =
    let z : Ranked = record { rank = 0; number = 0 } in
    let inside : k < length fs = omega (arith, length-map fs number_of) in
    let all = All-permutation (λ e. seen_rank seen tag full e.number ≡ Some e.rank) es fs same each in
    let w = ranked_is_within seen tag full (slice_index_or fs k z).number (slice_index_or fs k z).rank (all k z inside) in
    rw (get_or-map number_of fs k z d inside) w

pub refilled : {X : Type 0} (n : ℕ) (xs ws : List X) → n ≡ length xs → length ws ≡ length xs → refill n xs ws ≡ ws
refilled n xs ws len same = ap (λ (ys : List _). take n (ws ++ ys)) (drop_all (length ws) xs (omega arith)) ∙ take_at ws [] n (omega arith)
