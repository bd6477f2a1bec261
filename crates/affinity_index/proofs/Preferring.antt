-- The slots that are warm for a module come first.
use Rattle.std.proofs.Common.{◌≡◌, ⊎_elim, inl, inr, ℕ, suc, [], ◌∷◌, ◌+◌, ◌-◌, ◌*◌, ◌<◌, ◌≤◌, ◌==◌, Bool, true, false, cond, Option, Some, None, is_some, unwrap_or, List, length, refl, ap, subst, arith}
use Rattle.std.specs.Prelude.{slice_index_or}
use Rattle.std.specs.List.{count_by}
use Rattle.std.proofs.lemmas.Bool.{eqb-true, eq-eqb}
use Rattle.std.proofs.lemmas.List.Sums.{get_or-le-sum_by}
use Rattle.pool_core.specs.declared.words.State.{State}
use Rattle.pool_core.specs.declared.words.State.TheVariants.{Cold, Warm, Awaiting}
use Rattle.pool_core.specs.declared.words.Target.{Target}
use Rattle.pool_core.specs.declared.words.StateWord.{StateWord}
use Rattle.pool_core.specs.StateWords.{bit, stamp_bound}
use Rattle.affinity_index.specs.Orders.{IsOrder, seen_rank, rank_of, free_rank}
use mathlib.Core.Logic.{dite}
use native.Mathlib.Decide.{dec_le}
use Rattle.std.proofs.lemmas.List.Sums.{sum_by-cons}
use Rattle.pool_core.specs.StateWords.{unpacked}
use Rattle.affinity_index.specs.Preference.{IsOwnWarm, OwnComeFirst, OwnAreListed, OwnOrAllBefore, word_seen_at}

-- slots of this rank or a later one are not the module's own
not_less : (full : Bool) → (stamp_bound ≤ cond full (2 * stamp_bound) stamp_bound) × (stamp_bound ≤ cond full stamp_bound (2 * stamp_bound))
not_less true = (omega arith, omega arith)
not_less false = (omega arith, omega arith)

own_tag : (tag : ℕ) (full : Bool) (to : Target) (same : Bool) → (to.tag == tag) ≡ same → (r : ℕ)
    → Some (cond same (stamp_bound - 1 - to.stamp) (cond full stamp_bound (2 * stamp_bound) + to.stamp)) ≡ Some r → r < stamp_bound → to.tag ≡ tag
own_tag tag full to true is r ranked small = eqb-true to.tag tag is
own_tag tag full to false is r ranked small =
    let e : cond full stamp_bound (2 * stamp_bound) + to.stamp ≡ r = cc in let late = (not_less full).1 in absurd (omega arith)

own_state : (tag : ℕ) (full : Bool) (to : Target) (s : State) (r : ℕ) → free_rank tag full to s ≡ Some r → r < stamp_bound → (s ≡ Warm) × (to.tag ≡ tag)
own_state tag full to Cold r ranked small =
    let e : cond full (2 * stamp_bound) stamp_bound ≡ r = cc in let late = (not_less full).0 in absurd (omega arith)
own_state tag full to Warm r ranked small = (refl, own_tag tag full to (to.tag == tag) refl r ranked small)
own_state tag full to Awaiting r ranked small = let none : None ≡ Some r = ranked in cc

own_by_rank : (tag : ℕ) (full : Bool) (w : StateWord) (held : Bool) → w.held ≡ held → (r : ℕ) → cond held None (free_rank tag full w.target w.target.state) ≡ Some r → r < stamp_bound → IsOwnWarm tag w
own_by_rank tag full w true is r ranked small = let none : None ≡ Some r = ranked in cc
own_by_rank tag full w false is r ranked small =
    let own = own_state tag full w.target w.target.state r ranked small in record { free = is; warm = own.0; tag_is = own.1 }

early : (tag : ℕ) (full : Bool) (to : Target) (held : Bool) (s : State) → held ≡ false → s ≡ Warm → to.tag ≡ tag → unwrap_or (cond held None (free_rank tag full to s)) 0 < stamp_bound
early tag full to true s free warm tag_is = cc
early tag full to false Cold free warm tag_is = cc
early tag full to false Warm free warm tag_is = let same : (to.tag == tag) ≡ true = eq-eqb to.tag tag tag_is in rw same (omega arith)
early tag full to false Awaiting free warm tag_is = cc

own_is_early : (tag : ℕ) (full : Bool) (w : StateWord) → IsOwnWarm tag w → unwrap_or (rank_of tag full w) 0 < stamp_bound
own_is_early tag full w own = early tag full w.target w.held w.target.state own.free own.warm own.tag_is

some_of : (o : Option ℕ) → 1 ≤ bit (is_some o) → (r : ℕ) × (o ≡ Some r)
some_of None h = absurd (omega arith)
some_of (Some r) h = (r, refl)

-- each number of the order has a rank
pub has_rank : (seen : List ℕ) (tag : ℕ) (full : Bool) (order : List ℕ) → IsOrder seen tag full order → (j : ℕ) → j < length order → (r : ℕ) × (seen_rank seen tag full (slice_index_or order j 0) ≡ Some r)
has_rank seen tag full order is j within =
    let n = slice_index_or order j 0 in
    let self : (n == n) ≡ true = eq-eqb n n refl in
    let some : 1 ≤ count_by (λ (m : ℕ). m == n) order = rw self at (get_or-le-sum_by (λ (m : ℕ). cond (m == n) 1 0) order j 0 within) in
    some_of (seen_rank seen tag full n) (subst (λ (k : ℕ). 1 ≤ k) (is.once n) some)

pub own_come_first : (seen : List ℕ) (tag : ℕ) (full : Bool) (order : List ℕ) → IsOrder seen tag full order → OwnComeFirst tag seen order
own_come_first seen tag full order is j k less within own =
    let rank : ℕ → ℕ = λ i. unwrap_or (seen_rank seen tag full (slice_index_or order i 0)) 0 in
    let last = own_is_early tag full (word_seen_at seen order k) own in
    let has = has_rank seen tag full order is j (omega arith) in
    let rank_is : rank j ≡ has.0 = ap (λ o. unwrap_or o 0) has.1 in
    let small : has.0 < stamp_bound = ⊎_elim (λ h. omega (arith, h, last, rank_is)) (λ h. omega (arith, h.0, last, rank_is)) (is.ranked j k less within) in
    own_by_rank tag full (word_seen_at seen order j) (word_seen_at seen order j).held refl has.0 has.1 small

own_is_ranked : (tag : ℕ) (full : Bool) (w : StateWord) → IsOwnWarm tag w → is_some (rank_of tag full w) ≡ true
own_is_ranked tag full w own = rw (own.free, own.warm) refl

-- what is counted stands at some place
pub place_of : (n : ℕ) (xs : List ℕ) → 1 ≤ count_by (λ (m : ℕ). m == n) xs → (k : ℕ) × (k < length xs) × (slice_index_or xs k 0 ≡ n)
place_of n [] h = absurd (omega arith)
place_of n (x ∷ xs) h =
    let more : count_by (λ (m : ℕ). m == n) (x ∷ xs) ≡ bit (x == n) + count_by (λ (m : ℕ). m == n) xs = sum_by-cons (λ (m : ℕ). bit (m == n)) x xs in
    let split : (b : Bool) → (x == n) ≡ b → (k : ℕ) × (k < length (x ∷ xs)) × (slice_index_or (x ∷ xs) k 0 ≡ n) = elim [
      | true ↦ λ e. (0, omega arith, eqb-true x n e)
      | false ↦ λ e.
          let z : bit (x == n) ≡ 0 = ap bit e in let at = place_of n xs (omega (arith, more, z, h)) in let l = at.1 in (suc at.0, omega arith, at.2)
    ] in split (x == n) refl

pub own_are_listed : (seen : List ℕ) (tag : ℕ) (full : Bool) (order : List ℕ) → IsOrder seen tag full order → OwnAreListed tag seen order
own_are_listed seen tag full order is m own =
    let one : bit (is_some (seen_rank seen tag full m)) ≡ 1 = ap bit (own_is_ranked tag full (unpacked (slice_index_or seen m 1)) own) in
    let c = is.once m in place_of m order (omega arith)

pub own_or_all_before : (seen : List ℕ) (tag : ℕ) (full : Bool) (order : List ℕ) → IsOrder seen tag full order → OwnOrAllBefore tag seen order
own_or_all_before seen tag full order is j within =
    let rank : ℕ → ℕ = λ i. unwrap_or (seen_rank seen tag full (slice_index_or order i 0)) 0 in
    let has = has_rank seen tag full order is j within in
    let rank_is : rank j ≡ has.0 = ap (λ o. unwrap_or o 0) has.1 in
    dite (dec_le stamp_bound has.0)
    (λ late. inr (λ m own.
    let at = own_are_listed seen tag full order is m own in
    let early : unwrap_or (seen_rank seen tag full m) 0 < stamp_bound = own_is_early tag full (unpacked (slice_index_or seen m 1)) own in
    let rank_k : rank at.0 ≡ unwrap_or (seen_rank seen tag full m) 0 = ap (λ (n : ℕ). unwrap_or (seen_rank seen tag full n) 0) at.2 in
    dite (dec_le j at.0)
    (λ past. dite (dec_le at.0 j)
    (λ same. let e : rank j ≡ rank at.0 = ap rank (let z : j ≡ at.0 = omega arith in z) in absurd (omega (arith, late, early, rank_k, rank_is, e)))
    (λ apart. absurd (⊎_elim (λ h. omega (arith, h, late, early, rank_k, rank_is)) (λ h. omega (arith, h.0, late, early, rank_k, rank_is)) (is.ranked j at.0 (omega arith) at.1))))
    (λ before. (at.0, omega arith, at.2))))
    (λ early. inl (own_by_rank tag full (word_seen_at seen order j) (word_seen_at seen order j).held refl has.0 has.1 (omega arith)))
