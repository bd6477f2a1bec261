-- Each step keeps the rule.
use Rattle.std.proofs.Common.{◌≡◌, ◌≢◌, ℕ, zero, suc, ◌+◌, ◌<◌, ◌≤◌, ⊎_elim, Bool, true, false, cond, List, [], ◌∷◌, ◌++◌, length, get_or, set, replicate, refl, sym, ap, ◌∙◌, subst, arith, length-set, get_or-set_same, get_or-set_other}
use mathlib.Core.Logic.{dite, ◌↔◌}
use mathlib.Core.Option.{none, some, some-injective, some-ne-none}
use native.Mathlib.Decide.{ℕ_discrete}
use lib.Bits.{bit_or}
use lib.ListN.{get_elem?}
use Rattle.std.specs.Prelude.{◌==◌}
use Rattle.std.specs.List.{count_by}
use Rattle.std.proofs.lemmas.Bool.{and_left, and_parts, eqb-true, ne_eqb}
use Rattle.std.proofs.lemmas.List.{length-replicate}
use Rattle.std.proofs.lemmas.List.Sums.{sum_by_push}
use Rattle.atomic_table.specs.Table.{State as TableState, step, keeps, stepped, opening, Allows, Splits, Joins}
use Rattle.atomic_table.proofs.Lists.{at_set, at_snoc}
use Rattle.slot_words.proofs.Lookups.{found}
use Rattle.slot_words.proofs.SharedPasses.{sum_by-set_view, two-le-sum_by, shared_after_join, shared_after_split, shared_after_step, shared_at_start, shared_beside}
use Rattle.retired_tags.specs.declared.setup.Setup.{Setup}
use Rattle.retired_tags.specs.declared.views.TagView.{TagView}
use Rattle.retired_tags.specs.declared.views.TagStep.{TagStep}
use Rattle.retired_tags.specs.declared.views.TagStep.TheVariants.{RetireOr, RetireLoad}
use Rattle.retired_tags.specs.Steps.{first_sets, sets_first, tells, HasSet}
use Rattle.retired_tags.specs.Views.{first_view, spent_view, steps_of, view_after, view_given, view_joined, view_left, view_share, view_unsplit}
use Rattle.retired_tags.specs.Rule.{all_first_sets, IsTruly, Kept, SetByOne, SetForGood}
use Rattle.retired_tags.specs.Outcomes.{Carrier, Looks, Retires}
use Rattle.retired_tags.proofs.StepCounts.{bit_is, both_count, first_sets_or, first_sets_set, one_more, or_one, sets_tell}
use Rattle.retired_tags.proofs.ViewSums.{sum_has_part, sum_of_one}

zero_at : (m n : ℕ) → ◌≡◌ {A = ℕ} (get_or (replicate m 0) n 0) 0
zero_at zero n = refl
zero_at (suc m) zero = refl
zero_at (suc m) (suc n) = zero_at m n

module _ (k : Setup) where
  -- Word i becomes b, which is no less than it was. The step that is noted tells of that word alone, where b sets it, and sets it first where it was not set.
  step_kept : (s : TableState (Unit {0}) TagView) (id i b : ℕ) (v : TagView) (o : TagStep) (c : List (ℕ × Unit {0})) → Kept k s → get_elem? s.views id ≡ some v → 1 ≤ v.share → i < k.tags
      → b ≤ 1 → get_or s.words i 0 ≤ b
      → ((n : ℕ) → tells n o ≡ true → (n ≡ i) × (b ≡ 1)) → get_or s.words i 0 + cond (sets_first i o) 1 0 ≡ b → ((n : ℕ) → n ≢ i → sets_first n o ≡ false)
      → Kept k (stepped s i b id c (view_after v o) keeps)
  step_kept s id i b v o c kept at live below small up told once apart = let ws : List ℕ = s.words in let vs : List TagView = s.views in let w : TagView = view_after v o in
      let within : i < length ws = let e = kept.words_are in omega arith in
      let here : (n : ℕ) → n ≡ i → get_or (set ws i b) n 0 ≡ b = λ n e. ap (λ (m : ℕ). get_or (set ws i b) m 0) e ∙ get_or-set_same ws i b 0 within in
      let there : (n : ℕ) → n ≢ i → get_or (set ws i b) n 0 ≡ get_or ws n 0 = λ n ne. get_or-set_other ws i n b 0 ne in
      let stays : (n : ℕ) → get_or ws n 0 ≡ 1 → get_or (set ws i b) n 0 ≡ 1 = λ n e. dite (ℕ_discrete n i)
      (λ same. let h = here n same in let was : get_or ws i 0 ≡ get_or ws n 0 = ap (λ (m : ℕ). get_or ws m 0) (sym same) in omega arith)
      (λ other. there n other ∙ e) in
      let own = kept.each id v at in record {
        words_are = length-set ws i b ∙ kept.words_are;
        bits = λ n. dite (ℕ_discrete n i) (λ same. let h = here n same in omega arith) (λ other. let h = there n other in let f = kept.bits n in omega arith);
        once = λ n. let sum : all_first_sets n (set vs id w) + first_sets n (steps_of v) ≡ all_first_sets n vs + first_sets n (steps_of w) = sum_by-set_view spent_view (λ (u : TagView). first_sets n (steps_of u)) vs id v w at in
            let more = one_more (sets_first n) v o in let was = kept.once n in dite (ℕ_discrete n i)
            (λ same. let h = here n same in let e : get_or ws n 0 + cond (sets_first n o) 1 0 ≡ b = ap (λ (m : ℕ). get_or ws m 0 + cond (sets_first m o) 1 0) same ∙ once in omega arith)
            (λ other. let h = there n other in let e : ◌≡◌ {A = ℕ} (cond (sets_first n o) 1 0) 0 = ap (λ (q : Bool). cond q 1 0) (apart n other) in omega arith);
        each = λ j u e. ⊎_elim
            (λ (t : (j ≡ id) × (w ≡ u)). subst (IsTruly k.passes (set ws i b)) t.1 record {
              known = λ n knows. let a = one_more (tells n) v o in
                  let split : (q : Bool) → tells n o ≡ q → get_or (set ws i b) n 0 ≡ 1 = elim [
                    | true ↦ λ yes. let f = told n yes in here n f.0 ∙ f.1
                    | false ↦ λ no. let f : ◌≡◌ {A = ℕ} (cond (tells n o) 1 0) 0 = ap (λ (q : Bool). cond q 1 0) no in stays n (own.known n (omega arith))
                  ] in split (tells n o) refl;
              away = λ zero_share. absurd (omega arith);
              told = λ some_share. own.told live;
            })
            (λ (t : (j ≢ id) × (get_elem? vs j ≡ some u)). let f = kept.each j u t.1 in record { known = λ n knows. stays n (f.known n knows); away = f.away; told = f.told })
            (at_set vs id j w u e);
        shared = shared_after_step spent_view view_share view_unsplit k.passes vs id v w at refl refl kept.shared;
      }

  -- a pass that stands for all has all steps
  alone : (s : TableState (Unit {0}) TagView) (id n : ℕ) (v : TagView) → Kept k s → get_elem? s.views id ≡ some v → 1 ≤ v.share → v.share ≡ v.passes → first_sets n (steps_of v) ≡ get_or s.words n 0
  alone s id n v kept at live all = let told : v.passes ≡ k.passes = (kept.each id v at).told live in
      let whole : all_first_sets n s.views ≡ first_sets n (steps_of v) = sum_of_one (λ (u : TagView). first_sets n (steps_of u)) spent_view s.views id v refl at
      (λ j u other there. let beside = shared_beside spent_view view_share view_unsplit k.passes s.views id j v refl at other kept.shared in
      let is : (get_or s.views j spent_view).share ≡ u.share = ap view_share (found s.views j u spent_view there).1 in
      ap (λ (l : List TagStep). first_sets n l) ((kept.each j u there).away (omega arith))) in
      sym whole ∙ kept.once n

  -- so its own steps tell whether a bit is set
  by_own_steps : (s : TableState (Unit {0}) TagView) (id n : ℕ) (v : TagView) → Kept k s → get_elem? s.views id ≡ some v → 1 ≤ v.share → v.share ≡ v.passes → (get_or s.words n 0 ≡ 1) ↔ HasSet n (steps_of v)
  by_own_steps s id n v kept at live all = (
    (λ e. let own = alone s id n v kept at live all in let some' = first_sets_set n (steps_of v) in omega arith),
    (λ has. (kept.each id v at).known n (let t = sets_tell n (steps_of v) in omega arith)),
  )

  pub retires_allowed : (slots id i : ℕ) (me : Carrier) → i < k.tags → 1 ≤ me.0.share → Allows (Kept k) slots id me i (λ x. bit_or x 1) (Retires (step slots i 1 0 none) me)
  retires_allowed slots id i me below live s kept wide at small = let x : ℕ = get_or s.words i 0 in let o : TagStep = RetireOr i (x == 1) in let once = first_sets_or i x (kept.bits i) in (
    view_after me.0 o,
    keeps,
    tt,
    subst (λ (b : ℕ). Kept k (stepped s i b id me.1 (view_after me.0 o) keeps)) (sym (or_one x (kept.bits i)))
        (step_kept s id i 1 me.0 o me.1 kept at live below (omega arith) (kept.bits i) (λ n yes. (sym (eqb-true i n yes), refl)) once (λ n other. and_left (i == n) _ (ne_eqb i n (λ e. other (sym e))))),
    record { slots = refl; noted = refl; known = (kept.each id me.0 at).known i; own_steps = by_own_steps s id i me.0 kept at live; once = λ all. let more = one_more (sets_first i) me.0 o in let own = alone s id i me.0 kept at live all in omega arith },
  )

  pub looks_allowed : (slots id i : ℕ) (me : Carrier) → i < k.tags → 1 ≤ me.0.share → Allows (Kept k) slots id me i (λ x. x) (Looks (step slots i 0 0 none) me)
  looks_allowed slots id i me below live s kept wide at small = let x : ℕ = get_or s.words i 0 in let o : TagStep = RetireLoad i (x == 1) in (
    view_after me.0 o,
    keeps,
    tt,
    step_kept s id i x me.0 o me.1 kept at live below (kept.bits i) (omega arith) (λ n yes. let t = and_parts (i == n) (x == 1) yes in (sym (eqb-true i n t.0), eqb-true x 1 t.1)) (omega arith) (λ n other. refl),
    record { slots = refl; noted = refl; known = (kept.each id me.0 at).known i; own_steps = by_own_steps s id i me.0 kept at live; once = λ all. let more = one_more (sets_first i) me.0 o in let own = alone s id i me.0 kept at live all in let bit = bit_is x (kept.bits i) in omega arith },
  )

  pub splits_allowed : (id : ℕ) (v : TagView) → 1 ≤ v.unsplit → 2 ≤ v.share → Splits (Kept k) id v (view_left v) (view_given v)
  splits_allowed id v rest two s kept at = let vs : List TagView = s.views in let l : TagView = view_left v in let g : TagView = view_given v in let ls : List TagView = set vs id l in
      let own = kept.each id v at in record {
        words_are = kept.words_are;
        bits = kept.bits;
        once = λ n. let f : TagView → ℕ = λ u. first_sets n (steps_of u) in
            let more : all_first_sets n (ls ++ g ∷ []) ≡ all_first_sets n ls + 0 = sum_by_push f ls g in
            let sum : all_first_sets n ls + f v ≡ all_first_sets n vs + f v = sum_by-set_view spent_view f vs id v l at in let was = kept.once n in omega arith;
        each = λ j u e. ⊎_elim
            (λ (h : get_elem? ls j ≡ some u). ⊎_elim
            (λ (t : (j ≡ id) × (l ≡ u)). subst (IsTruly k.passes s.words) t.1 record { known = own.known; away = λ z. absurd (omega arith); told = λ _. own.told (omega arith) })
            (λ (t : (j ≢ id) × (get_elem? vs j ≡ some u)). kept.each j u t.1) (at_set vs id j l u h))
            (λ (h : g ≡ u). subst (IsTruly k.passes s.words) h record { known = λ n none. absurd (omega arith); away = λ z. refl; told = λ _. own.told (omega arith) })
            (at_snoc ls g u j e);
        shared = shared_after_split spent_view view_share view_unsplit k.passes vs id v l g at (omega arith) (omega arith) refl refl kept.shared;
      }

  pub joins_allowed : (id other : ℕ) (v w : TagView) → 1 ≤ v.share → 1 ≤ w.share → Joins (Kept k) id v other w (view_joined v w) spent_view
  joins_allowed id other v w live live' s kept at apart at' = let vs : List TagView = s.views in let b : TagView = view_joined v w in let bs : List TagView = set vs id b in
      let was' : get_elem? vs other ≡ some w = ⊎_elim (λ (t : (other ≡ id) × (b ≡ w)). absurd (apart t.0)) (λ (t : (other ≢ id) × (get_elem? vs other ≡ some w)). t.1) (at_set vs id other b w at') in
      let own = kept.each id v at in let theirs = kept.each other w was' in record {
        words_are = kept.words_are;
        bits = kept.bits;
        once = λ n. let f : TagView → ℕ = λ u. first_sets n (steps_of u) in
            let taken : all_first_sets n bs + f v ≡ all_first_sets n vs + f b = sum_by-set_view spent_view f vs id v b at in
            let given : all_first_sets n (set bs other spent_view) + f w ≡ all_first_sets n bs + 0 = sum_by-set_view spent_view f bs other w spent_view at' in
            let both : f b ≡ f v + f w = both_count (sets_first n) v w in let was = kept.once n in omega arith;
        each = λ j u e. ⊎_elim
            (λ (h : (j ≡ other) × (spent_view ≡ u)). subst (IsTruly k.passes s.words) h.1 record { known = λ n none. absurd (omega arith); away = λ z. refl; told = λ some'. absurd (omega arith) })
            (λ (h : (j ≢ other) × (get_elem? bs j ≡ some u)). ⊎_elim
            (λ (t : (j ≡ id) × (b ≡ u)). subst (IsTruly k.passes s.words) t.1 record {
              known = λ n knows. let both = both_count (tells n) v w in dite (ℕ_discrete (count_by (tells n) (steps_of v)) 0)
                  (λ none. theirs.known n (omega arith)) (λ some'. own.known n (omega arith));
              away = λ z. absurd (omega arith);
              told = λ _. own.told live;
            })
            (λ (t : (j ≢ id) × (get_elem? vs j ≡ some u)). kept.each j u t.1) (at_set vs id j b u h.1))
            (at_set bs other j spent_view u e);
        shared = shared_after_join spent_view view_share view_unsplit k.passes vs id other v w b spent_view at at' was' apart (omega arith) (omega arith) refl refl kept.shared;
      }

  -- no bit is set at the opening
  pub kept_at_opening : (ws : List ℕ) → ws ≡ replicate k.tags 0 → 1 ≤ k.passes → Kept k (opening ws [] (first_view k.passes))
  kept_at_opening ws is some_pass = let zeros : (n : ℕ) → get_or ws n 0 ≡ 0 = λ n. ap (λ (l : List ℕ). get_or l n 0) is ∙ zero_at k.tags n in record {
    words_are = ap length is ∙ length-replicate k.tags 0;
    bits = λ n. let z = zeros n in omega arith;
    once = λ n. sym (zeros n);
    each = elim [
      | zero ↦ λ v e. subst (IsTruly k.passes ws) (some-injective _ v e) record { known = λ n none. absurd (omega arith); away = λ z. refl; told = λ _. refl }
      | suc j ↦ λ v e. absurd (some-ne-none v (sym e))
    ];
    shared = shared_at_start spent_view view_share view_unsplit k.passes (first_view k.passes) refl (omega arith);
  }

pub set_for_good : SetForGood
set_for_good setup s kept j n v at knows = let one = (kept.each j v at).known n knows in
    let part = sum_has_part (λ (u : TagView). first_sets n (steps_of u)) s.views (let e = kept.once n in omega arith) in
    (one, record { seat = part.place; view = part.view; at = part.at; has_set = (let first = part.some_part in let is = first_sets_set n (steps_of part.view) in omega arith) })

pub set_by_one : SetByOne
set_by_one setup s kept i j n v w at at' apart = let f : TagView → ℕ = λ u. first_sets n (steps_of u) in
    let two = two-le-sum_by spent_view f s.views i j v refl at (λ e. apart (sym e)) in
    let is : f (get_or s.views j spent_view) ≡ f w = ap f (found s.views j w spent_view at').1 in
    let e = kept.once n in let small = kept.bits n in omega arith
