-- Whatever was seen, there is an order of it.
use Rattle.std.proofs.Common.{◌≡◌, ◌⊎◌, inl, inr, ⊎_elim, ℕ, zero, suc, ◌+◌, ◌<◌, ◌≤◌, ◌==◌, ◌&&◌, Bool, true, false, Option, Some, None, is_some, unwrap_or, List, [], ◌∷◌, length, ltb, refl, ap, sym, ◌∙◌, arith}
use Rattle.std.specs.Prelude.{slice_index_or}
use Rattle.std.specs.List.{count_by}
use Rattle.std.proofs.lemmas.Bool.{true≢false}
use Rattle.std.proofs.lemmas.Bool.Decides.{nat_tests}
use Rattle.std.proofs.lemmas.List.Sums.{sum_by-cons}
use mathlib.Core.Logic.{dite}
use native.Mathlib.Decide.{dec_le}
use Rattle.pool_core.specs.StateWords.{bit}
use Rattle.affinity_index.specs.Orders.{IsOrder, Precedes, seen_rank}
use Rattle.affinity_index.proofs.Sorting.{ranked_is_within}

no_more : (p : ℕ → Bool) (k n : ℕ) → p k ≡ false → bit (ltb n k && p n) ≡ bit (ltb n (suc k) && p n)
no_more p k n is = dite (dec_le k n)
    (λ up. dite (dec_le n k)
    (λ down. let e : n ≡ k = omega arith in let z : p n ≡ false = ap p e ∙ is in grind (arith, nat_tests))
    (λ past. grind (arith, nat_tests)))
    (λ less. grind (arith, nat_tests))

-- a number below k + 1 is k or below k
and_one : (p : ℕ → Bool) (k n : ℕ) → p k ≡ true → bit (k == n) + bit (ltb n k && p n) ≡ bit (ltb n (suc k) && p n)
and_one p k n is = dite (dec_le k n)
    (λ up. dite (dec_le n k)
    (λ down. let e : n ≡ k = omega arith in let z : p n ≡ true = ap p e ∙ is in grind (arith, nat_tests))
    (λ past. grind (arith, nat_tests)))
    (λ less. grind (arith, nat_tests))

none_below : (n : ℕ) (b : Bool) → 0 ≡ bit (ltb n 0 && b)
none_below n b = grind (arith, nat_tests)

within_all : (n slots : ℕ) (b : Bool) → (b ≡ true → n < slots) → bit (ltb n slots && b) ≡ bit b
within_all n slots true within = let w = within refl in grind (arith, nat_tests)
within_all n slots false within = grind (arith, nat_tests)

module _ (seen : List ℕ) (tag : ℕ) (full : Bool) where
  abbrev has : ℕ → Bool
  has n = is_some (seen_rank seen tag full n)

  abbrev rank : ℕ → ℕ
  rank n = unwrap_or (seen_rank seen tag full n) 0

  abbrev Before : ℕ → ℕ → Type 0
  Before n m = Precedes seen tag full n m

  one_is_before : (n m : ℕ) → Before n m ⊎ Before m n
  one_is_before n m =
      dite (dec_le (rank n) (rank m))
      (λ up. dite (dec_le (rank m) (rank n))
      (λ down. dite (dec_le n m) (λ less. inl (inr (omega arith, less))) (λ more. inr (inr (omega arith, omega arith))))
      (λ less. inl (inl (omega arith))))
      (λ more. inr (inl (omega arith)))

  before_trans : (n m k : ℕ) → Before n m → Before m k → Before n k
  before_trans n m k = ⊎_elim
      (λ p. ⊎_elim (λ q. inl (omega arith)) (λ q. inl (omega (arith, q.0))))
      (λ p. ⊎_elim (λ q. inl (omega (arith, p.0))) (λ q. inr (omega (arith, p.0, q.0), omega (arith, p.1, q.1))))

  abbrev BeforeAll : ℕ → List ℕ → Type 0
  BeforeAll n [] = Unit {0}
  BeforeAll n (m ∷ ms) = Before n m × BeforeAll n ms

  -- each stands before all that follow
  abbrev InOrder : List ℕ → Type 0
  InOrder [] = Unit {0}
  InOrder (n ∷ ns) = BeforeAll n ns × InOrder ns

  earlier_too : (w n : ℕ) (ns : List ℕ) → Before w n → BeforeAll n ns → BeforeAll w ns
  earlier_too w n [] first all = tt
  earlier_too w n (m ∷ ms) first all = (before_trans w n m first all.0, earlier_too w n ms first all.1)

  -- one number more, at its place
  record Inserted (n : ℕ) (ns : List ℕ) : Type 0 where
    more : List ℕ
    longer : length more ≡ suc (length ns)
    once : (m : ℕ) → count_by (λ (k : ℕ). k == m) more ≡ bit (n == m) + count_by (λ (k : ℕ). k == m) ns
    in_order : InOrder more
    after : (w : ℕ) → Before w n → BeforeAll w ns → BeforeAll w more

  inserted : (n : ℕ) (ns : List ℕ) → InOrder ns → Inserted n ns
  inserted n [] is = record {
    more = n ∷ [];
    longer = refl;
    once = λ m. sum_by-cons (λ (k : ℕ). bit (k == m)) n [];
    in_order = (tt, tt);
    after = λ w first all. (first, tt);
  }
  inserted n (m ∷ ms) is = ⊎_elim
      (λ (first : Before n m). record {
        more = n ∷ m ∷ ms;
        longer = refl;
        once = λ k. sum_by-cons (λ (j : ℕ). bit (j == k)) n (m ∷ ms);
        in_order = ((first, earlier_too n m ms first is.0), is);
        after = λ w before all. (before, all);
      })
      (λ (later : Before m n). let rest = inserted n ms is.1 in record {
        more = m ∷ rest.more;
        longer = ap suc rest.longer;
        once = λ k. let here = sum_by-cons (λ (j : ℕ). bit (j == k)) m rest.more in let there = sum_by-cons (λ (j : ℕ). bit (j == k)) m ms in let e = rest.once k in omega (arith, here, there, e);
        in_order = (rest.after m later is.0, rest.in_order);
        after = λ w before all. (all.0, rest.after w before all.1);
      })
      (one_is_before n m)

  -- the slots below k that have a rank, in order
  record Ordered (k : ℕ) : Type 0 where
    order : List ℕ
    few : length order ≤ k
    once : (n : ℕ) → count_by (λ (m : ℕ). m == n) order ≡ bit (ltb n k && is_some (seen_rank seen tag full n))
    in_order : InOrder order

  one_more : (k : ℕ) (o : Option ℕ) → seen_rank seen tag full k ≡ o → Ordered k → Ordered (suc k)
  one_more k None is so_far = record {
    order = so_far.order;
    few = let f = so_far.few in omega arith;
    once = λ n. so_far.once n ∙ no_more has k n (ap is_some is);
    in_order = so_far.in_order;
  }
  one_more k (Some r) is so_far = let more = inserted k so_far.order so_far.in_order in record {
    order = more.more;
    few = let f = so_far.few in let l = more.longer in omega arith;
    once = λ n. more.once n ∙ ap (λ (c : ℕ). bit (k == n) + c) (so_far.once n) ∙ and_one has k n (ap is_some is);
    in_order = more.in_order;
  }

  ordered : (k : ℕ) → Ordered k
  ordered zero = record { order = []; few = omega arith; once = λ n. none_below n (has n); in_order = tt }
  ordered (suc k) = one_more k (seen_rank seen tag full k) refl (ordered k)

  all_before : (n : ℕ) (ns : List ℕ) → BeforeAll n ns → (k : ℕ) → k < length ns → Before n (slice_index_or ns k 0)
  all_before n [] all k within = absurd (omega arith)
  all_before n (m ∷ ms) all zero within = all.0
  all_before n (m ∷ ms) all (suc k) within = all_before n ms all.1 k (omega arith)

  by_place : (ns : List ℕ) → InOrder ns → (j k : ℕ) → j < k → k < length ns → Before (slice_index_or ns j 0) (slice_index_or ns k 0)
  by_place [] is j k less within = absurd (omega arith)
  by_place (n ∷ ns) is j zero less within = absurd (omega arith)
  by_place (n ∷ ns) is zero (suc k) less within = all_before n ns is.0 k (omega arith)
  by_place (n ∷ ns) is (suc j) (suc k) less within = by_place ns is.1 j k (omega arith) (omega arith)

  some_within : (n : ℕ) (o : Option ℕ) → seen_rank seen tag full n ≡ o → is_some o ≡ true → n < length seen
  some_within n None is some = absurd (true≢false (sym some))
  some_within n (Some r) is some = ranked_is_within seen tag full n r is

  pub order_exists : (order : List ℕ) × IsOrder seen tag full order × (length order ≤ length seen)
  order_exists = let all = ordered (length seen) in (
    all.order,
    record {
      once = λ n. all.once n ∙ within_all n (length seen) (has n) (some_within n (seen_rank seen tag full n) refl);
      ranked = by_place all.order all.in_order;
    },
    all.few,
  )
