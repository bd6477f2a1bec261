-- The least rank of what is left is that of the next in the order.
use Rattle.std.proofs.Common.{◌≡◌, ◌⊎◌, inl, inr, ⊎_elim, ℕ, zero, suc, ◌+◌, ◌<◌, ◌≤◌, ◌==◌, Bool, true, false, cond, leb, ltb, Option, Some, None, is_some, unwrap_or, List, [], ◌∷◌, length, refl, ap, sym, subst, ◌∙◌, arith, IfSome}
use Rattle.std.specs.Prelude.{slice_index_or, slice_get}
use Rattle.std.specs.List.{count_by}
use Rattle.std.specs.Option.{option_map}
use Rattle.std.proofs.lemmas.Bool.{eq-eqb, ne_eqb}
use Rattle.std.proofs.lemmas.Bool.Decides.{nat_tests}
use Rattle.std.proofs.lemmas.List.Sums.{get_or-le-sum_by, sum_by-cons}
use Rattle.std.proofs.lemmas.Option.{get_or_from_slice_get, slice_get-get_or, slice_get_past, slice_get_within}
use mathlib.Core.Logic.{dite}
use native.Mathlib.Decide.{dec_le}
use Rattle.pool_core.specs.StateWords.{bit}
use Rattle.affinity_index.specs.declared.ranks.Ranked.{Ranked}
use Rattle.affinity_index.specs.declared.ranks.TheConstants.{NO_RANK}
use Rattle.affinity_index.specs.Orders.{IsOrder, seen_rank}
use Rattle.affinity_index.specs.Rankings.{IsLeast, IsLeastBelow, behind, is_behind, if_ranked, lesser_of, number_of, rank_behind}
use Rattle.affinity_index.proofs.Preferring.{has_rank, place_of}
use Rattle.affinity_index.proofs.Sorting.{ranked_is_within}

module _ (rank_at : ℕ → Option ℕ) where
  pub none_more : (k : ℕ) (least : Option Ranked) → rank_at k ≡ None → IsLeastBelow rank_at k least → IsLeastBelow rank_at (k + 1) least
  none_more k None none so_far = λ m less. dite (dec_le k m)
      (λ up. ap rank_at (let e : m ≡ k = omega arith in e) ∙ none)
      (λ less. so_far m (omega arith))
  none_more k (Some e) none so_far = record {
    within = let w = so_far.within in omega arith;
    rank_is = so_far.rank_is;
    least = λ m r less has. dite (dec_le k m)
        (λ up. let z : None ≡ Some r = sym none ∙ ap rank_at (let e : k ≡ m = omega arith in e) ∙ has in absurd (cc))
        (λ less. so_far.least m r (omega arith) has);
  }

  same_rank : (k m r s : ℕ) → m ≡ k → rank_at k ≡ Some r → rank_at m ≡ Some s → r ≡ s
  same_rank k m r s e has other = let z : Some r ≡ Some s = sym has ∙ ap rank_at (sym e) ∙ other in cc

  one_more : (k r : ℕ) (e : Ranked) (first : Bool) → leb e.rank r ≡ first → rank_at k ≡ Some r → IsLeast rank_at k e
      → IsLeast rank_at (k + 1) (cond first e (record { rank = r; number = k }))
  one_more k r e true first has so_far = record {
    within = let w = so_far.within in omega arith;
    rank_is = so_far.rank_is;
    least = λ m s less other. dite (dec_le k m)
        (λ up. let same = same_rank k m r s (omega arith) has other in let w = so_far.within in dite (dec_le r e.rank) (λ down. inr (grind (arith, nat_tests), omega arith)) (λ below. inl (omega arith)))
        (λ less. so_far.least m s (omega arith) other);
  }
  one_more k r e false first has so_far = record {
    within = omega arith;
    rank_is = has;
    least = λ m s less other. dite (dec_le k m)
        (λ up. let same = same_rank k m r s (omega arith) has other in inr (same, omega arith))
        (λ less. let above : r < e.rank = grind (arith, nat_tests) in
        ⊎_elim (λ q. inl (omega arith)) (λ q. inl (omega (arith, q.0))) (so_far.least m s (omega arith) other));
  }

  pub ranked_more : (k r : ℕ) (least : Option Ranked) → rank_at k ≡ Some r → IsLeastBelow rank_at k least
      → IsLeastBelow rank_at (k + 1) (Some (lesser_of least (record { rank = r; number = k })))
  ranked_more k r None has so_far = record {
    within = omega arith;
    rank_is = has;
    least = λ m s less other. dite (dec_le k m)
        (λ up. let same = same_rank k m r s (omega arith) has other in inr (same, omega arith))
        (λ less. let z : None ≡ Some s = sym (so_far m (omega arith)) ∙ other in absurd (cc));
  }
  ranked_more k r (Some e) has so_far = one_more k r e (leb e.rank r) refl has so_far

-- the first of the slots below k so far, by ranks in place of which NO_RANK may stand
pub record IsFirstSoFar (rank_at : ℕ → Option ℕ) (k : ℕ) (e : Ranked) : Type 0 where
  pub most : e.rank ≤ NO_RANK
  pub below : IsLeastBelow rank_at k (if_ranked e)

module _ (rank_at : ℕ → Option ℕ) where
  lesser_new : (none : Bool) (least : Ranked) (e : Ranked) → leb least.rank e.rank ≡ false → lesser_of (cond none None (Some least)) e ≡ e
  lesser_new true least e later = refl
  lesser_new false least e later = rw later refl

  lesser_old : (least : Ranked) (e : Ranked) → leb least.rank e.rank ≡ true → lesser_of (Some least) e ≡ least
  lesser_old least e first = rw first refl

  has_rank_too : (e : Ranked) → e.rank < NO_RANK → if_ranked e ≡ Some e
  has_rank_too e small = let other : (e.rank == NO_RANK) ≡ false = ne_eqb e.rank NO_RANK (λ (same : e.rank ≡ NO_RANK). omega (arith, same, small)) in
      ap (λ (b : Bool). cond b None (Some e)) other

  at_most : (here : ℕ) (o : Option ℕ) → here ≡ unwrap_or o NO_RANK → IfSome o (λ r. r < NO_RANK) → here ≤ NO_RANK
  at_most here None is small = omega (arith, is)
  at_most here (Some r) is small = omega (arith, is, small)

  less_first : (n here : ℕ) (least : Ranked) (o : Option ℕ) → rank_at n ≡ o → here ≡ unwrap_or o NO_RANK → IfSome o (λ r. r < NO_RANK) → here < least.rank
      → IsFirstSoFar rank_at n least → IsLeastBelow rank_at (n + 1) (if_ranked (record { rank = here; number = n }))
  less_first n here least None has is small less so_far = absurd (omega (arith, is, so_far.most, less))
  less_first n here least (Some r) has is small less so_far =
      let e : Ranked = record { rank = here; number = n } in
      let below : here < NO_RANK = omega (arith, is, small) in
      let later : leb least.rank here ≡ false = grind (arith, nat_tests) in
      let at_here : rank_at n ≡ Some here = has ∙ ap Some (sym is) in
      let all = ranked_more rank_at n here (if_ranked least) at_here so_far.below in
      subst (IsLeastBelow rank_at (n + 1)) (ap Some (lesser_new (least.rank == NO_RANK) least e later) ∙ sym (has_rank_too e below)) all

  same_first : (n here : ℕ) (least : Ranked) (o : Option ℕ) → rank_at n ≡ o → here ≡ unwrap_or o NO_RANK → IfSome o (λ r. r < NO_RANK) → least.rank ≤ here
      → IsFirstSoFar rank_at n least → IsLeastBelow rank_at (n + 1) (if_ranked least)
  same_first n here least None has is small first so_far = none_more rank_at n (if_ranked least) has so_far.below
  same_first n here least (Some r) has is small first so_far =
      let e : Ranked = record { rank = here; number = n } in
      let below : least.rank < NO_RANK = omega (arith, is, small, first) in
      let before : leb least.rank here ≡ true = grind (arith, nat_tests) in
      let at_here : rank_at n ≡ Some here = has ∙ ap Some (sym is) in
      let known : IsLeastBelow rank_at n (Some least) = subst (IsLeastBelow rank_at n) (has_rank_too least below) so_far.below in
      let all = ranked_more rank_at n here (Some least) at_here known in
      subst (IsLeastBelow rank_at (n + 1)) (ap Some (lesser_old least e before) ∙ sym (has_rank_too least below)) all

  pub first_more : (n here : ℕ) (least : Ranked) (o : Option ℕ) → rank_at n ≡ o → here ≡ unwrap_or o NO_RANK → IfSome o (λ r. r < NO_RANK)
      → IsFirstSoFar rank_at n least → IsFirstSoFar rank_at (n + 1) (cond (ltb here least.rank) (record { rank = here; number = n }) least)
  first_more n here least o has is small so_far = split (ltb here least.rank) refl
    where
      split : (b : Bool) → ltb here least.rank ≡ b → IsFirstSoFar rank_at (n + 1) (cond b (record { rank = here; number = n }) least)
      split true less = record {
        most = at_most here o is small;
        below = less_first n here least o has is small (grind (arith, nat_tests)) so_far;
      }
      split false not_less = record {
        most = so_far.most;
        below = same_first n here least o has is small (grind (arith, nat_tests)) so_far;
      }

least_is_first : (n x : ℕ) (r s : ℕ) → (r < s) ⊎ ((r ≡ s) × (n ≤ x)) → (s < r) ⊎ ((s ≡ r) × (x ≤ n)) → n ≡ x
least_is_first n x r s = ⊎_elim
    (λ p. ⊎_elim (λ q. absurd (omega arith)) (λ q. absurd (omega (arith, q.0))))
    (λ p. ⊎_elim (λ q. absurd (omega (arith, p.0))) (λ q. omega (arith, p.1, q.1)))

-- a number that stands at two places is counted twice
twice : (n : ℕ) (xs : List ℕ) (k j : ℕ) → k < j → j < length xs → slice_index_or xs k 0 ≡ n → slice_index_or xs j 0 ≡ n → 2 ≤ count_by (λ (m : ℕ). m == n) xs
twice n [] k j less within here there = absurd (omega arith)
twice n (x ∷ xs) k zero less within here there = absurd (omega arith)
twice n (x ∷ xs) zero (suc j) less within here there =
    let more : count_by (λ (m : ℕ). m == n) (x ∷ xs) ≡ bit (x == n) + count_by (λ (m : ℕ). m == n) xs = sum_by-cons (λ (m : ℕ). bit (m == n)) x xs in
    let first : bit (x == n) ≡ 1 = ap bit (eq-eqb x n here) in
    let counted : bit (slice_index_or xs j 0 == n) ≤ count_by (λ (m : ℕ). m == n) xs = get_or-le-sum_by (λ (m : ℕ). bit (m == n)) xs j 0 (omega arith) in
    let second : bit (slice_index_or xs j 0 == n) ≡ 1 = ap bit (eq-eqb (slice_index_or xs j 0) n there) in
    omega (arith, more, first, counted, second)
twice n (x ∷ xs) (suc k) (suc j) less within here there =
    let more : count_by (λ (m : ℕ). m == n) (x ∷ xs) ≡ bit (x == n) + count_by (λ (m : ℕ). m == n) xs = sum_by-cons (λ (m : ℕ). bit (m == n)) x xs in
    let rest = twice n xs k j (omega arith) (omega arith) here there in
    omega (arith, more, rest)

not_behind : (e : Ranked) (r n : ℕ) → (r < e.rank) ⊎ ((r ≡ e.rank) × (n ≤ e.number)) → is_behind e r n ≡ false
not_behind e r n = ⊎_elim (λ h. grind (arith, nat_tests)) (λ h. let same = h.0 in let low = h.1 in grind (arith, nat_tests))

is_past : (e : Ranked) (r n : ℕ) → (e.rank < r) ⊎ ((e.rank ≡ r) × (e.number < n)) → is_behind e r n ≡ true
is_past e r n = ⊎_elim (λ h. grind (arith, nat_tests)) (λ h. let same = h.0 in let high = h.1 in grind (arith, nat_tests))

behind_has_rank : (last : Option Ranked) (n : ℕ) (o : Option ℕ) (r : ℕ) → behind last n o ≡ Some r → o ≡ Some r
behind_has_rank None n o r has = has
behind_has_rank (Some e) n None r has = has
behind_has_rank (Some e) n (Some s) r has =
    let split : (b : Bool) → cond b (Some s) None ≡ Some r → Some s ≡ Some r = elim [
      | true ↦ λ h. h
      | false ↦ λ h. let z : None ≡ Some r = h in absurd (cc)
    ] in split (is_behind e s n) has

module _ (seen : List ℕ) (tag : ℕ) (full : Bool) (order : List ℕ) (is : IsOrder seen tag full order) where
  abbrev rank_of_slot : ℕ → Option ℕ
  rank_of_slot n = seen_rank seen tag full n

  abbrev at : ℕ → ℕ
  at j = slice_index_or order j 0

  -- what is left are the slots that stand in the order from place p on
  pub record IsLeftFrom (rank_at : ℕ → Option ℕ) (p : ℕ) : Type 0 where
    pub seen_too : (n r : ℕ) → rank_at n ≡ Some r → rank_of_slot n ≡ Some r
    pub before : (j : ℕ) → j < p → j < length order → rank_at (at j) ≡ None
    pub later : (j : ℕ) → p ≤ j → j < length order → rank_at (at j) ≡ rank_of_slot (at j)

  -- the least of what is left stands there
  module _ (rank_at : ℕ → Option ℕ) (p : ℕ) (left : IsLeftFrom rank_at p) where
    at_place : (e : Ranked) → IsLeast rank_at (length seen) e → (j : ℕ) → j < length order → at j ≡ e.number → Some e.number ≡ slice_get order p
    at_place e least j within stands = dite (dec_le p j)
        (λ up. let has = has_rank seen tag full order is p (omega arith) in
        let there : rank_at (at p) ≡ Some has.0 = left.later p (omega arith) (omega arith) ∙ has.1 in
        let first = least.least (at p) has.0 (ranked_is_within seen tag full (at p) has.0 has.1) there in
        let e_rank : unwrap_or (rank_of_slot (at j)) 0 ≡ e.rank = ap (λ (n : ℕ). unwrap_or (rank_of_slot n) 0) stands ∙ ap (λ o. unwrap_or o 0) (left.seen_too e.number e.rank least.rank_is) in
        let p_rank : unwrap_or (rank_of_slot (at p)) 0 ≡ has.0 = ap (λ o. unwrap_or o 0) has.1 in
        let same : e.number ≡ at p = dite (dec_le j p)
        (λ down. sym stands ∙ ap at (let z : j ≡ p = omega arith in z))
        (λ past. least_is_first e.number (at p) e.rank has.0 first
        (⊎_elim (λ q. inl (omega (arith, q, e_rank, p_rank))) (λ q. inr (omega (arith, q.0, e_rank, p_rank), omega (arith, q.1, stands))) (is.ranked p j (omega arith) within))) in
        ap Some same ∙ sym (slice_get-get_or order p 0 (omega arith)))
        (λ down. let z : None ≡ Some e.rank = sym (left.before j (omega arith) within) ∙ ap rank_at stands ∙ least.rank_is in absurd (cc))

    pub next_of_order : (least : Option Ranked) → IsLeastBelow rank_at (length seen) least → option_map number_of least ≡ slice_get order p
    next_of_order None none = dite (dec_le (length order) p)
        (λ past. sym (slice_get_past order p past))
        (λ within. let has = has_rank seen tag full order is p (omega arith) in
        let z : None ≡ Some has.0 = sym (none (at p) (ranked_is_within seen tag full (at p) has.0 has.1)) ∙ left.later p (omega arith) (omega arith) ∙ has.1 in absurd (cc))
    next_of_order (Some e) least =
        let one : bit (is_some (rank_of_slot e.number)) ≡ 1 = ap (λ o. bit (is_some o)) (left.seen_too e.number e.rank least.rank_is) in
        let counted = is.once e.number in
        let place = place_of e.number order (omega arith) in
        at_place e least place.0 place.1 place.2

  all_left : IsLeftFrom (rank_behind seen tag full None) 0
  all_left = record { seen_too = λ n r has. has; before = λ j less within. absurd (omega arith); later = λ j up within. refl }

  pub first_of_order : (least : Option Ranked) → IsLeastBelow (rank_behind seen tag full None) (length seen) least → option_map number_of least ≡ slice_get order 0
  first_of_order least below = next_of_order (rank_behind seen tag full None) 0 all_left least below

  -- behind the slot at place k
  module _ (k : ℕ) (within : k < length order) (e : Ranked) (stands : at k ≡ e.number) (ranked : rank_of_slot e.number ≡ Some e.rank) where
    abbrev rank_at : ℕ → ℕ
    rank_at j = unwrap_or (rank_of_slot (at j)) 0

    here : rank_at k ≡ e.rank
    here = ap (λ (n : ℕ). unwrap_or (rank_of_slot n) 0) stands ∙ ap (λ o. unwrap_or o 0) ranked

    gone : (j : ℕ) → j < k + 1 → j < length order → (r : ℕ) → rank_of_slot (at j) ≡ Some r → behind (Some e) (at j) (Some r) ≡ None
    gone j less inside r has =
        let r_is : rank_at j ≡ r = ap (λ o. unwrap_or o 0) has in
        let early : (r < e.rank) ⊎ ((r ≡ e.rank) × (at j ≤ e.number)) = dite (dec_le k j)
        (λ up. let same : j ≡ k = omega arith in let s : rank_at j ≡ rank_at k = ap rank_at same in let n : at j ≡ at k = ap at same in inr (omega (arith, s, here, r_is), omega (arith, n, stands)))
        (λ down. ⊎_elim (λ q. inl (omega (arith, q, here, r_is))) (λ q. inr (omega (arith, q.0, here, r_is), omega (arith, q.1, stands))) (is.ranked j k (omega arith) within)) in
        ap (λ (b : Bool). cond b (Some r) None) (not_behind e r (at j) early)

    other_number : (j : ℕ) → k < j → j < length order → at j ≡ e.number → ⊥
    other_number j less inside same =
        let two = twice e.number order k j less inside stands same in
        let one : bit (is_some (rank_of_slot e.number)) ≡ 1 = ap (λ o. bit (is_some o)) ranked in
        let counted = is.once e.number in omega (arith, two, one, counted)

    stays : (j : ℕ) → k < j → j < length order → (r : ℕ) → rank_of_slot (at j) ≡ Some r → behind (Some e) (at j) (Some r) ≡ Some r
    stays j less inside r has =
        let r_is : rank_at j ≡ r = ap (λ o. unwrap_or o 0) has in
        let late : (e.rank < r) ⊎ ((e.rank ≡ r) × (e.number < at j)) =
        ⊎_elim (λ q. inl (omega (arith, q, here, r_is)))
        (λ q. dite (dec_le (at j) e.number)
        (λ down. absurd (other_number j less inside (omega (arith, q.1, stands, down))))
        (λ up. inr (omega (arith, q.0, here, r_is), omega arith)))
        (is.ranked k j less inside) in
        ap (λ (b : Bool). cond b (Some r) None) (is_past e r (at j) late)

    others_left : IsLeftFrom (rank_behind seen tag full (Some e)) (k + 1)
    others_left = record {
      seen_too = λ n r has. behind_has_rank (Some e) n (rank_of_slot n) r has;
      before = λ j less inside. let has = has_rank seen tag full order is j inside in ap (behind (Some e) (at j)) has.1 ∙ gone j less inside has.0 has.1;
      later = λ j up inside. let has = has_rank seen tag full order is j inside in ap (behind (Some e) (at j)) has.1 ∙ stays j (omega arith) inside has.0 has.1 ∙ sym has.1;
    }

    next_at_place : (least : Option Ranked) → IsLeastBelow (rank_behind seen tag full (Some e)) (length seen) least → option_map number_of least ≡ slice_get order (k + 1)
    next_at_place least below = next_of_order (rank_behind seen tag full (Some e)) (k + 1) others_left least below

  pub follows : (k last rank : ℕ) → slice_get order k ≡ Some last → rank_of_slot last ≡ Some rank
      → (least : Option Ranked) → IsLeastBelow (rank_behind seen tag full (Some (record { rank = rank; number = last }))) (length seen) least → option_map number_of least ≡ slice_get order (k + 1)
  follows k last rank stands ranked least below =
      next_at_place k (slice_get_within order k last stands) (record { rank = rank; number = last }) (get_or_from_slice_get order k last 0 stands) ranked least below

  pub stands_ranked : (k last : ℕ) → slice_get order k ≡ Some last → rank_of_slot last ≡ None → ⊥
  stands_ranked k last stands none =
      let has = has_rank seen tag full order is k (slice_get_within order k last stands) in
      let z : Some has.0 ≡ None = sym has.1 ∙ ap rank_of_slot (get_or_from_slice_get order k last 0 stands) ∙ none in cc
