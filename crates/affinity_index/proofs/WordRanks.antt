-- The ranks of slots by the bits of their words: the first warm one and the first cold one give the first of all.
use Rattle.std.proofs.Common.{◌≡◌, ◌≢◌, ◌⊎◌, inl, inr, ⊎_elim, ℕ, ◌+◌, ◌-◌, ◌*◌, ◌/◌, ◌%◌, ◌<◌, ◌≤◌, ◌^◌, ◌==◌, Bool, true, false, cond, ltb, Option, Some, None, unwrap_or, List, refl, ap, sym, ◌∙◌, arith}
use Rattle.std.specs.Prelude.{slice_index_or}
use Rattle.std.proofs.lemmas.Bool.{cases_eq, cases_lt, eq-eqb, ne_eqb, true≢false}
use Rattle.std.proofs.lemmas.Bool.Decides.{nat_tests}
use Rattle.pool_core.specs.declared.words.State.TheVariants.{Cold, Warm, Awaiting}
use Rattle.pool_core.specs.declared.words.Target.{Target}
use Rattle.pool_core.specs.StateWords.{stamp_bound, unpacked}
use Rattle.affinity_index.specs.declared.ranks.Ranked.{Ranked}
use Rattle.affinity_index.specs.declared.ranks.TheConstants.{NO_RANK}
use Rattle.affinity_index.specs.Orders.{free_rank, rank_of, seen_rank}
use Rattle.affinity_index.specs.Rankings.{IsFirstCold, IsLeast, IsLeastBelow, IsNoColdBelow, cold_rank, earlier_of, is_before_cold, ranked_or_none, seen_warm, warm_rank}

-- ---- one word

-- the rank of a slot that is held or not, whose state's code is 0 or not, and 1 or not
abbrev coded_rank : (tag : ℕ) (full held cold warm : Bool) → Target → Option ℕ
coded_rank tag full held cold warm to = cond held None (free_rank tag full to (cond cold Cold (cond warm Warm Awaiting)))

cold_coded : (tag : ℕ) (full held cold warm : Bool) (to : Target) → held ≡ false → cold ≡ true → coded_rank tag full held cold warm to ≡ Some (cold_rank full)
cold_coded tag full true cold warm to h c = absurd (true≢false h)
cold_coded tag full false false warm to h c = absurd (true≢false (sym c))
cold_coded tag full false true warm to h c = refl

none_coded : (tag : ℕ) (full held cold warm : Bool) (to : Target) → (held ≡ false → cold ≡ false) → warm ≡ false → coded_rank tag full held cold warm to ≡ None
none_coded tag full true cold warm to c w = refl
none_coded tag full false true warm to c w = absurd (true≢false (c refl))
none_coded tag full false false true to c w = absurd (true≢false w)
none_coded tag full false false false to c w = refl

apart_warm : (tag : ℕ) (full same : Bool) (to : Target) (r : ℕ) → to.stamp < stamp_bound
    → Some (cond same (stamp_bound - 1 - to.stamp) (cond full stamp_bound (2 * stamp_bound) + to.stamp)) ≡ Some r → r ≢ cold_rank full
apart_warm tag true true to r small has = λ (e : r ≡ 2 * stamp_bound). let is : stamp_bound - 1 - to.stamp ≡ r = cc in omega arith
apart_warm tag true false to r small has = λ (e : r ≡ 2 * stamp_bound). let is : stamp_bound + to.stamp ≡ r = cc in omega arith
apart_warm tag false true to r small has = λ (e : r ≡ stamp_bound). let is : stamp_bound - 1 - to.stamp ≡ r = cc in omega arith
apart_warm tag false false to r small has = λ (e : r ≡ stamp_bound). let is : 2 * stamp_bound + to.stamp ≡ r = cc in omega arith

apart_coded : (tag : ℕ) (full held cold warm : Bool) (to : Target) (r : ℕ) → cold ≡ false → to.stamp < stamp_bound → coded_rank tag full held cold warm to ≡ Some r → r ≢ cold_rank full
apart_coded tag full true cold warm to r c small has = let z : None ≡ Some r = has in absurd (cc)
apart_coded tag full false true warm to r c small has = absurd (true≢false c)
apart_coded tag full false false false to r c small has = let z : None ≡ Some r = has in absurd (cc)
apart_coded tag full false false true to r c small has = apart_warm tag full (to.tag == tag) to r small has

module _ (tag : ℕ) (full : Bool) (word : ℕ) where
  not_held : (word % 2 == 1) ≡ false → word % 2 ≡ 0
  not_held free = ⊎_elim
      (λ (e : word % 2 ≡ 1). absurd (true≢false (sym (eq-eqb (word % 2) 1 e) ∙ free)))
      (λ (ne : word % 2 ≢ 1). omega arith)
      (cases_eq (word % 2) 1)

  cold_is : word % 8 ≡ 0 → rank_of tag full (unpacked word) ≡ Some (cold_rank full)
  cold_is e = cold_coded tag full (word % 2 == 1) (word / 2 % 4 == 0) (word / 2 % 4 == 1) (unpacked word).target
      (ne_eqb (word % 2) 1 (λ (held : word % 2 ≡ 1). omega arith))
      (eq-eqb (word / 2 % 4) 0 (omega arith))

  none_is : word / 2 % 2 ≢ 1 → word % 8 ≢ 0 → rank_of tag full (unpacked word) ≡ None
  none_is not_warm not_cold = none_coded tag full (word % 2 == 1) (word / 2 % 4 == 0) (word / 2 % 4 == 1) (unpacked word).target
      (λ free. let even = not_held free in ne_eqb (word / 2 % 4) 0 (λ (cold : word / 2 % 4 ≡ 0). not_cold (omega arith)))
      (ne_eqb (word / 2 % 4) 1 (λ (warm : word / 2 % 4 ≡ 1). not_warm (omega arith)))

  warm_is_apart : (r : ℕ) → word / 2 % 2 ≡ 1 → word < 2 ^ 64 → rank_of tag full (unpacked word) ≡ Some r → r ≢ cold_rank full
  warm_is_apart r warm small has = apart_coded tag full (word % 2 == 1) (word / 2 % 4 == 0) (word / 2 % 4 == 1) (unpacked word).target r
      (ne_eqb (word / 2 % 4) 0 (λ (cold : word / 2 % 4 ≡ 0). omega arith))
      (let stamp : word / 8388608 < 2199023255552 = omega arith in stamp)
      has

  pub passed_none : (word / 2 % 2 == 1) ≡ false → warm_rank tag full word ≡ None
  passed_none off = ap (λ (b : Bool). cond b (rank_of tag full (unpacked word)) None) off

  pub looked_at : (word / 2 % 2 == 1) ≡ true → warm_rank tag full word ≡ rank_of tag full (unpacked word)
  looked_at on = ap (λ (b : Bool). cond b (rank_of tag full (unpacked word)) None) on

  -- a slot without the bit leaves the first so far
  pub passed_over : (least : Ranked) (n : ℕ) → least.rank ≤ NO_RANK → (word / 2 % 2 == 1) ≡ false → least ≡ earlier_of least (ranked_or_none (warm_rank tag full word) n)
  passed_over least n most off =
      let not_less : ltb NO_RANK least.rank ≡ false = grind (arith, nat_tests) in
      sym
      (ap (λ (o : Option ℕ). earlier_of least (ranked_or_none o n)) (passed_none off)
      ∙ ap (λ (b : Bool). cond b (ranked_or_none None n) least) not_less)

-- ---- all words that were seen

module _ (seen : List ℕ) (tag : ℕ) (full : Bool) where
  abbrev at : ℕ → ℕ
  at m = slice_index_or seen m 1

  abbrev warm_at : ℕ → Option ℕ
  warm_at m = seen_warm seen tag full m

  abbrev rank_at : ℕ → Option ℕ
  rank_at m = seen_rank seen tag full m

  warm_rank_is : (m : ℕ) → at m / 2 % 2 ≡ 1 → warm_at m ≡ rank_at m
  warm_rank_is m e = looked_at tag full (at m) (eq-eqb (at m / 2 % 2) 1 e)

  some_is : (b : Bool) (o : Option ℕ) (r : ℕ) → cond b o None ≡ Some r → o ≡ Some r
  some_is true o r has = has
  some_is false o r has = let z : None ≡ Some r = has in absurd (cc)

  ranked_too : (m r : ℕ) → warm_at m ≡ Some r → rank_at m ≡ Some r
  ranked_too m r has = some_is (at m / 2 % 2 == 1) (rank_at m) r has

  -- a slot with a rank has that of a warm one, or is cold
  warm_or_cold : (m r : ℕ) → rank_at m ≡ Some r → ((at m / 2 % 2 ≡ 1) × (warm_at m ≡ Some r)) ⊎ ((at m % 8 ≡ 0) × (r ≡ cold_rank full))
  warm_or_cold m r has = ⊎_elim
      (λ (w : at m / 2 % 2 ≡ 1). inl (w, warm_rank_is m w ∙ has))
      (λ (not_warm : at m / 2 % 2 ≢ 1). ⊎_elim
      (λ (c : at m % 8 ≡ 0). inr (c, let same : Some (cold_rank full) ≡ Some r = sym (cold_is tag full (at m) c) ∙ has in cc))
      (λ (not_cold : at m % 8 ≢ 0). let z : None ≡ Some r = sym (none_is tag full (at m) not_warm not_cold) ∙ has in absurd (cc))
      (cases_eq (at m % 8) 0))
      (cases_eq (at m / 2 % 2) 1)

  pub warm_first : (first : Option Ranked) (k : ℕ) → is_before_cold full first ≡ true → IsLeastBelow warm_at k first → IsLeastBelow rank_at k first
  warm_first None k before least = absurd (true≢false (sym before))
  warm_first (Some e) k before least =
      let test : ltb e.rank (cold_rank full) ≡ true = before in
      let early : e.rank < cold_rank full = grind (arith, nat_tests) in record {
        within = least.within;
        rank_is = ranked_too e.number e.rank least.rank_is;
        least = λ m r lt has. ⊎_elim
            (λ w. least.least m r lt w.1)
            (λ c. let late : r ≡ cold_rank full = c.1 in inl (omega arith))
            (warm_or_cold m r has);
      }

  warm_is_later : (first : Option Ranked) (k m r : ℕ) → is_before_cold full first ≡ false → IsLeastBelow warm_at k first → m < k → warm_at m ≡ Some r → r ≢ cold_rank full → cold_rank full < r
  warm_is_later None k m r before least lt has apart = let z : None ≡ Some r = sym (least m lt) ∙ has in absurd (cc)
  warm_is_later (Some e) k m r before least lt has apart =
      let test : ltb e.rank (cold_rank full) ≡ false = before in
      let late : cold_rank full ≤ e.rank = grind (arith, nat_tests) in
      let up : cold_rank full ≤ r = ⊎_elim (λ (l : e.rank < r). omega arith) (λ l. let same : e.rank ≡ r = l.0 in omega arith) (least.least m r lt has) in
      ⊎_elim (λ (e : r ≡ cold_rank full). absurd (apart e)) (λ (ne : r ≢ cold_rank full). omega arith) (cases_eq r (cold_rank full))

  pub cold_first : (first : Option Ranked) (k n : ℕ) → ((m : ℕ) → m < k → at m < 2 ^ 64) → is_before_cold full first ≡ false → IsLeastBelow warm_at k first → IsFirstCold seen k n
      → IsLeastBelow rank_at k (Some (record { rank = cold_rank full; number = n }))
  cold_first first k n small before least is = record {
    within = is.within;
    rank_is = cold_is tag full (at n) is.cold;
    least = λ m r lt has. ⊎_elim
        (λ w. inl (warm_is_later first k m r before least lt w.1 (warm_is_apart tag full (at m) r w.0 (small m lt) has)))
        (λ c. inr (sym c.1, ⊎_elim (λ (l : m < n). absurd (is.before m l c.0)) (λ (u : n ≤ m). u) (cases_lt m n)))
        (warm_or_cold m r has);
  }

  same_below : (k m : ℕ) → IsNoColdBelow seen k → m < k → rank_at m ≡ warm_at m
  same_below k m none lt = ⊎_elim
      (λ (w : at m / 2 % 2 ≡ 1). sym (warm_rank_is m w))
      (λ (not_warm : at m / 2 % 2 ≢ 1). none_is tag full (at m) not_warm (none m lt) ∙ sym (passed_none tag full (at m) (ne_eqb (at m / 2 % 2) 1 not_warm)))
      (cases_eq (at m / 2 % 2) 1)

  pub no_cold : (first : Option Ranked) (k : ℕ) → IsNoColdBelow seen k → IsLeastBelow warm_at k first → IsLeastBelow rank_at k first
  no_cold None k none least = λ m lt. same_below k m none lt ∙ least m lt
  no_cold (Some e) k none least = record {
    within = least.within;
    rank_is = same_below k e.number none least.within ∙ least.rank_is;
    least = λ m r lt has. least.least m r lt (sym (same_below k m none lt) ∙ has);
  }
