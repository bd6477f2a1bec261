-- Passes stay shared among views as seats step, are split off and are joined.
use Rattle.std.proofs.Common.{◌≡◌, ◌≢◌, ℕ, zero, suc, ◌+◌, ◌≤◌, ⊎_elim, List, [], ◌∷◌, ◌++◌, length, get_or, set, sym, ap, ◌∙◌, arith, length-set, length-append, get_or-set_other, lt_of_not-le}
use mathlib.Core.Logic.{dite}
use mathlib.Core.Option.{some, some-injective, some-ne-none}
use native.Mathlib.Decide.{dec_le}
use lib.ListN.{get_elem?}
use Rattle.std.specs.List.{sum_by}
use Rattle.std.proofs.lemmas.List.{get_or_past}
use Rattle.std.proofs.lemmas.List.Sums.{sum_by-set, sum_by_push, get_or-le-sum_by}
use Rattle.atomic_table.proofs.Lists.{at_set, at_snoc}
use Rattle.slot_words.specs.SharedPasses.{AreShared}
use Rattle.slot_words.proofs.Lookups.{found}

module _ {W : Type 0} (none : W) where
  -- what a number is summed to after one view was changed
  pub sum_by-set_view : (f : W → ℕ) (views : List W) (id : ℕ) (v w : W) → get_elem? views id ≡ some v → sum_by f (set views id w) + f v ≡ sum_by f views + f w
  sum_by-set_view f views id v w at = let here = found views id v none at in let was : f (get_or views id none) ≡ f v = ap f here.1 in
      let sum : sum_by f (set views id w) + f (get_or views id none) ≡ sum_by f views + f w = sum_by-set f views id w none here.0 in omega arith

  -- two places together are no more than the sum
  pub two-le-sum_by : (f : W → ℕ) (views : List W) (i j : ℕ) (v : W) → f none ≡ 0 → get_elem? views i ≡ some v → j ≢ i → f v + f (get_or views j none) ≤ sum_by f views
  two-le-sum_by f views i j v nothing at ne = let rest : List W = set views i none in
      let beside : sum_by f rest + f v ≡ sum_by f views + f none = sum_by-set_view f views i v none at in
      let same : f (get_or rest j none) ≡ f (get_or views j none) = ap f (get_or-set_other views i j none none ne) in
      dite (dec_le (length rest) j)
      (λ past. let gone : f (get_or rest j none) ≡ f none = ap f (get_or_past rest j none past) in omega arith)
      (λ within. let le : f (get_or rest j none) ≤ sum_by f rest = get_or-le-sum_by f rest j none (lt_of_not-le within) in omega arith)

  module _ (share unsplit : W → ℕ) (passes : ℕ) where
    pub shared_at_start : (v : W) → share v ≡ passes → unsplit v + 1 ≡ passes → AreShared share unsplit passes (v ∷ [])
    shared_at_start v all rest = record {
      unsplit_sum = (let e : sum_by unsplit ([] ++ v ∷ []) ≡ 0 + unsplit v = sum_by_push unsplit [] v in omega arith);
      share_sum = (let e : sum_by share ([] ++ v ∷ []) ≡ 0 + share v = sum_by_push share [] v in omega arith);
      splits = elim [
        | zero ↦ λ u e some_left. ap (λ (k : W). unsplit k + 1) (sym (some-injective v u e)) ∙ rest
        | suc j ↦ λ u e some_left. absurd (some-ne-none u (sym e))
      ];
    }

    -- a view that changes in all else
    pub shared_after_step : (views : List W) (id : ℕ) (v w : W) → get_elem? views id ≡ some v → share w ≡ share v → unsplit w ≡ unsplit v → AreShared share unsplit passes views → AreShared share unsplit passes (set views id w)
    shared_after_step views id v w at same same' o = let a = sum_by-set_view share views id v w at in let b = sum_by-set_view unsplit views id v w at in
        let len : length (set views id w) ≡ length views = length-set views id w in let e = o.unsplit_sum in let e' = o.share_sum in record {
          unsplit_sum = omega arith;
          share_sum = omega arith;
          splits = λ j u there some_left. ⊎_elim
              (λ (t : (j ≡ id) × (w ≡ u)). let here : unsplit w ≡ unsplit u = ap unsplit t.1 in let own = o.splits id v at (omega arith) in omega arith)
              (λ (t : (j ≢ id) × (get_elem? views j ≡ some u)). let own = o.splits j u t.1 some_left in omega arith)
              (at_set views id j w u there);
        }

    -- where one view splits seats off, no other does
    splits_alone : (views : List W) (i j : ℕ) (v u : W) → unsplit none ≡ 0 → AreShared share unsplit passes views → get_elem? views i ≡ some v → 1 ≤ unsplit v → get_elem? views j ≡ some u → j ≢ i → unsplit u ≡ 0
    splits_alone views i j v u nothing o at some_left there ne =
        let two = two-le-sum_by unsplit views i j v nothing at ne in let is : unsplit (get_or views j none) ≡ unsplit u = ap unsplit (found views j u none there).1 in
        let e = o.unsplit_sum in let own = o.splits i v at some_left in omega arith

    -- one seat is split off, and the two views share what the one had
    pub shared_after_split : (views : List W) (id : ℕ) (v left given : W) → get_elem? views id ≡ some v → share left + share given ≡ share v → unsplit left + 1 ≡ unsplit v → unsplit given ≡ 0 → unsplit none ≡ 0
        → AreShared share unsplit passes views → AreShared share unsplit passes (set views id left ++ given ∷ [])
    shared_after_split views id v left given at shares rests none_given nothing o = let ls : List W = set views id left in
        let a = sum_by-set_view share views id v left at in let b = sum_by-set_view unsplit views id v left at in
        let a' : sum_by share (ls ++ given ∷ []) ≡ sum_by share ls + share given = sum_by_push share ls given in
        let b' : sum_by unsplit (ls ++ given ∷ []) ≡ sum_by unsplit ls + unsplit given = sum_by_push unsplit ls given in
        let len : length ls ≡ length views = length-set views id left in let len' : length (ls ++ given ∷ []) ≡ length ls + 1 = length-append ls (given ∷ []) in
        let e = o.unsplit_sum in let e' = o.share_sum in let own = o.splits id v at (omega arith) in record {
          unsplit_sum = omega arith;
          share_sum = omega arith;
          splits = λ j u there some_left. ⊎_elim
              (λ (h : get_elem? ls j ≡ some u). ⊎_elim
              (λ (t : (j ≡ id) × (left ≡ u)). let here : unsplit left ≡ unsplit u = ap unsplit t.1 in omega arith)
              (λ (t : (j ≢ id) × (get_elem? views j ≡ some u)). let gone = splits_alone views id j v u nothing o at (omega arith) t.1 t.0 in absurd (omega arith)) (at_set views id j left u h))
              (λ (h : given ≡ u). let here : unsplit given ≡ unsplit u = ap unsplit h in absurd (omega arith))
              (at_snoc ls given u j there);
        }

    -- one view takes in what another had
    pub shared_after_join : (views : List W) (id other : ℕ) (v w both spent : W) → get_elem? views id ≡ some v → get_elem? (set views id both) other ≡ some w → get_elem? views other ≡ some w → other ≢ id
        → share both + share spent ≡ share v + share w → unsplit both ≡ unsplit v + unsplit w → unsplit spent ≡ 0 → unsplit none ≡ 0
        → AreShared share unsplit passes views → AreShared share unsplit passes (set (set views id both) other spent)
    shared_after_join views id other v w both spent at at' was apart shares rests none_spent nothing o = let bs : List W = set views id both in
        let a = sum_by-set_view share views id v both at in let b = sum_by-set_view unsplit views id v both at in
        let a' = sum_by-set_view share bs other w spent at' in let b' = sum_by-set_view unsplit bs other w spent at' in
        let len : length bs ≡ length views = length-set views id both in let len' : length (set bs other spent) ≡ length bs = length-set bs other spent in
        let two = two-le-sum_by unsplit views id other v nothing at apart in let is : unsplit (get_or views other none) ≡ unsplit w = ap unsplit (found views other w none was).1 in
        let e = o.unsplit_sum in let e' = o.share_sum in record {
          unsplit_sum = omega arith;
          share_sum = omega arith;
          splits = λ j u there some_left. ⊎_elim
              (λ (t : (j ≡ other) × (spent ≡ u)). let here : unsplit spent ≡ unsplit u = ap unsplit t.1 in absurd (omega arith))
              (λ (t : (j ≢ other) × (get_elem? bs j ≡ some u)). ⊎_elim
              (λ (q : (j ≡ id) × (both ≡ u)). let here : unsplit both ≡ unsplit u = ap unsplit q.1 in
              dite (dec_le 1 (unsplit v))
              (λ mine. let own = o.splits id v at mine in omega arith)
              (λ not_mine. let own = o.splits other w was (omega arith) in omega arith))
              (λ (q : (j ≢ id) × (get_elem? views j ≡ some u)). let own = o.splits j u q.1 some_left in omega arith) (at_set views id j both u t.1))
              (at_set bs other j spent u there);
        }

    -- what one view stands for, and what another does, are no more than all
    pub shared_beside : (views : List W) (i j : ℕ) (v : W) → share none ≡ 0 → get_elem? views i ≡ some v → j ≢ i → AreShared share unsplit passes views → share v + share (get_or views j none) ≤ passes
    shared_beside views i j v nothing at ne o = let two = two-le-sum_by share views i j v nothing at ne in let e = o.share_sum in omega arith

    pub views_within : (views : List W) → AreShared share unsplit passes views → length views ≤ passes
    views_within views o = let e = o.unsplit_sum in omega arith
