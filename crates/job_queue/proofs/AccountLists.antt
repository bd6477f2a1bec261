-- Lists of which one place is written: sums over them, and lists of theirs joined end to end.
use Rattle.std.proofs.Common.{◌≡◌, ◌≢◌, ℕ, zero, suc, ◌+◌, ◌≤◌, ◌<◌, List, [], ◌∷◌, ◌++◌, length, set, sym, refl, ap, ◌∙◌, subst, append_assoc, append-nil, arith}
use Rattle.std.specs.Prelude.{All, sum_by, flat_map}
use Rattle.std.specs.List.Sorted.{IsPermutation}
use Rattle.std.proofs.lemmas.List.{set-set, set_comm}
use Rattle.std.proofs.lemmas.List.Concat.{flat_map-append}
use Rattle.std.proofs.lemmas.List.Elements.{All-head, All-tail}
use Rattle.std.proofs.lemmas.List.Sums.{sum_by-cons}
use Rattle.std.proofs.lemmas.List.Sorted.{IsPermutation-append_comm, IsPermutation-append_right, IsPermutation-sym, IsPermutation-trans}
use Rattle.crossbeam_queue.proofs.Lists.{set_here, set_else, set_again}
use mathlib.Core.Option.{some, some-injective, some-ne-none}
use lib.ListN.{get_elem?}

module _ {A : Type 0} where
  pub All-middle : (P : A → Type 0) (xs : List A) (x : A) (ys : List A) → All P (xs ++ x ∷ ys) → P x
  All-middle P [] x ys h = All-head P x ys h
  All-middle P (z ∷ zs) x ys h = All-middle P zs x ys (All-tail P z (zs ++ x ∷ ys) h)

  within : (xs : List A) (i : ℕ) (a : A) → get_elem? xs i ≡ some a → i < length xs
  within [] i a e = absurd (some-ne-none a (sym e))
  within (x ∷ xs) zero a e = omega arith
  within (x ∷ xs) (suc i) a e = omega (arith, within xs i a e)

  pub sum_by-set_at : (f : A → ℕ) (xs : List A) (i : ℕ) (a b : A) → get_elem? xs i ≡ some a → sum_by f (set xs i b) + f a ≡ sum_by f xs + f b
  sum_by-set_at f [] i a b e = absurd (some-ne-none a (sym e))
  sum_by-set_at f (x ∷ xs) zero a b e = let s : f x ≡ f a = ap f (some-injective x a e) in omega (arith, sum_by-cons f b xs, sum_by-cons f x xs)
  sum_by-set_at f (x ∷ xs) (suc i) a b e = let s = sum_by-set_at f xs i a b e in omega (arith, sum_by-cons f x (set xs i b), sum_by-cons f x xs)

  sum_by-has : (f : A → ℕ) (xs : List A) (i : ℕ) (a : A) → get_elem? xs i ≡ some a → f a ≤ sum_by f xs
  sum_by-has f [] i a e = absurd (some-ne-none a (sym e))
  sum_by-has f (x ∷ xs) zero a e = let s : f x ≡ f a = ap f (some-injective x a e) in omega (arith, sum_by-cons f x xs)
  sum_by-has f (x ∷ xs) (suc i) a e = omega (arith, sum_by-cons f x xs, sum_by-has f xs i a e)

  -- where one has all of f, no other has any
  pub others_have_none : (f : A → ℕ) (xs : List A) (i : ℕ) (a : A) → get_elem? xs i ≡ some a → f a ≡ sum_by f xs → (j : ℕ) (b : A) → j ≢ i → get_elem? xs j ≡ some b → f b ≡ 0
  others_have_none f [] i a e all j b n h = absurd (some-ne-none a (sym e))
  others_have_none f (x ∷ xs) zero a e all zero b n h = absurd (n refl)
  others_have_none f (x ∷ xs) zero a e all (suc j) b n h = let s : f x ≡ f a = ap f (some-injective x a e) in omega (arith, sum_by-cons f x xs, sum_by-has f xs j b h)
  others_have_none f (x ∷ xs) (suc i) a e all zero b n h = let s : f x ≡ f b = ap f (some-injective x b h) in omega (arith, sum_by-cons f x xs, sum_by-has f xs i a e)
  others_have_none f (x ∷ xs) (suc i) a e all (suc j) b n h = let c = sum_by-cons f x xs in let l = sum_by-has f xs i a e in others_have_none f xs i a e (omega arith) j b (λ p. n (ap suc p)) h

  sum_by-none : (f : A → ℕ) (xs : List A) → ((j : ℕ) (b : A) → get_elem? xs j ≡ some b → f b ≡ 0) → sum_by f xs ≡ 0
  sum_by-none f [] none = refl
  sum_by-none f (x ∷ xs) none = let s = none 0 x refl in omega (arith, sum_by-cons f x xs, sum_by-none f xs (λ j b e. none (suc j) b e))

  -- where no other has any of f, one has all of it
  pub sum_by-alone : (f : A → ℕ) (xs : List A) (i : ℕ) (a : A) → get_elem? xs i ≡ some a → ((j : ℕ) (b : A) → j ≢ i → get_elem? xs j ≡ some b → f b ≡ 0) → sum_by f xs ≡ f a
  sum_by-alone f [] i a e none = absurd (some-ne-none a (sym e))
  sum_by-alone f (x ∷ xs) zero a e none = let s : f x ≡ f a = ap f (some-injective x a e) in
      omega (arith, sum_by-cons f x xs, sum_by-none f xs (λ j b h. none (suc j) b (λ p. omega arith) h))
  sum_by-alone f (x ∷ xs) (suc i) a e none = let s = none 0 x (λ p. omega arith) refl in
      omega (arith, sum_by-cons f x xs, sum_by-alone f xs i a e (λ j b n h. none (suc j) b (λ p. n (omega arith)) h))

module _ {A X : Type 0} (g : A → List X) where
  flat_map-none : (xs : List A) → ((j : ℕ) (b : A) → get_elem? xs j ≡ some b → g b ≡ []) → flat_map g xs ≡ []
  flat_map-none [] none = refl
  flat_map-none (x ∷ xs) none = ap (λ l. l ++ flat_map g xs) (none 0 x refl) ∙ flat_map-none xs (λ j b e. none (suc j) b e)

  pub flat_map-alone : (xs : List A) (i : ℕ) (a : A) → get_elem? xs i ≡ some a → ((j : ℕ) (b : A) → j ≢ i → get_elem? xs j ≡ some b → g b ≡ []) → flat_map g xs ≡ g a
  flat_map-alone [] i a e none = absurd (some-ne-none a (sym e))
  flat_map-alone (x ∷ xs) zero a e none =
      ap (λ l. g x ++ l) (flat_map-none xs (λ j b h. none (suc j) b (λ p. omega arith) h)) ∙ (append-nil (g x) ∙ ap g (some-injective x a e))
  flat_map-alone (x ∷ xs) (suc i) a e none =
      ap (λ l. l ++ flat_map g xs) (none 0 x (λ p. omega arith) refl) ∙ flat_map-alone xs i a e (λ j b n h. none (suc j) b (λ p. n (omega arith)) h)

  pub flat_map-same : (xs : List A) (i : ℕ) (a b : A) → get_elem? xs i ≡ some a → g b ≡ g a → flat_map g (set xs i b) ≡ flat_map g xs
  flat_map-same [] i a b e s = refl
  flat_map-same (x ∷ xs) zero a b e s = ap (λ l. l ++ flat_map g xs) (s ∙ ap g (sym (some-injective x a e)))
  flat_map-same (x ∷ xs) (suc i) a b e s = ap (λ l. g x ++ l) (flat_map-same xs i a b e s)

  pub flat_map-push_none : (xs : List A) (b : A) → g b ≡ [] → flat_map g (xs ++ b ∷ []) ≡ flat_map g xs
  flat_map-push_none xs b s = flat_map-append g xs (b ∷ []) ∙ (ap (λ l. flat_map g xs ++ (l ++ [])) s ∙ append-nil (flat_map g xs))

  pub flat_map-grown : (xs : List A) (i : ℕ) (a b : A) (ys : List X) → get_elem? xs i ≡ some a → g b ≡ g a ++ ys → IsPermutation (flat_map g xs ++ ys) (flat_map g (set xs i b))
  flat_map-grown [] i a b ys e s = absurd (some-ne-none a (sym e))
  flat_map-grown (x ∷ xs) zero a b ys e s =
      let rest : List X = flat_map g xs in
      let grown : g b ++ rest ≡ g x ++ (ys ++ rest) = ap (λ l. l ++ rest) (s ∙ ap (λ (y : A). g y ++ ys) (sym (some-injective x a e))) ∙ append_assoc (g x) ys rest in
      let P : List X → List X → Type 0 = IsPermutation in
      subst (λ l. P ((g x ++ rest) ++ ys) l) (sym grown) (subst (λ l. P l (g x ++ (ys ++ rest))) (sym (append_assoc (g x) rest ys)) (IsPermutation-append_right (g x) (rest ++ ys) (ys ++ rest) (IsPermutation-append_comm rest ys)))
  flat_map-grown (x ∷ xs) (suc i) a b ys e s =
      let after : List X = g x ++ flat_map g (set xs i b) in
      let P : List X → Type 0 = λ l. IsPermutation l after in
      subst P (sym (append_assoc (g x) (flat_map g xs) ys)) (IsPermutation-append_right (g x) (flat_map g xs ++ ys) (flat_map g (set xs i b)) (flat_map-grown xs i a b ys e s))

  -- what one has is moved to another
  pub flat_map-moved : (xs : List A) (i j : ℕ) (a b both spent : A) → j ≢ i → get_elem? xs i ≡ some a → get_elem? xs j ≡ some b → g both ≡ g a ++ g b → g spent ≡ []
      → IsPermutation (flat_map g xs) (flat_map g (set (set xs i both) j spent))
  flat_map-moved xs i j a b both spent apart at at' s none =
      let less : List A = set xs j spent in
      let back : set less j b ≡ xs = set-set xs j spent b ∙ set_again xs j b at' in
      let P : List A → Type 0 = λ l. IsPermutation (flat_map g less ++ g b) (flat_map g l) in
      let out : IsPermutation (flat_map g less ++ g b) (flat_map g xs) = subst P back (flat_map-grown less j spent b (g b) (set_here xs j spent (within xs j b at')) (ap (λ l. l ++ g b) (sym none))) in
      let into : IsPermutation (flat_map g less ++ g b) (flat_map g (set less i both)) = flat_map-grown less i a both (g b) (set_else xs j i spent (λ p. apart (sym p)) ∙ at) s in
      let Q : List A → Type 0 = λ l. IsPermutation (flat_map g xs) (flat_map g l) in
      subst Q (set_comm xs j i spent both apart) (IsPermutation-trans (flat_map g xs) (flat_map g less ++ g b) (flat_map g (set less i both)) (IsPermutation-sym (flat_map g less ++ g b) (flat_map g xs) out) into)
