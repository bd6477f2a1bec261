-- Lists with the same elements, from which the same elements are taken.
use Rattle.std.proofs.Common.{◌≡◌, ◌⊎◌, inl, inr, ℕ, zero, suc, ◌<◌, ◌≤◌, List, [], ◌∷◌, ◌++◌, length, set, take, drop, refl, sym, ◌∙◌, subst, arith, append-nil}
use Rattle.std.specs.Prelude.{flat_map}
use Rattle.std.specs.List.Sorted.{IsPermutation}
use Rattle.std.proofs.lemmas.List.{set_split, set-get_or}
use Rattle.std.proofs.lemmas.List.Concat.{flat_map-cons}
use Rattle.std.proofs.lemmas.List.Edits.{swap_is}
use Rattle.std.proofs.lemmas.List.Sorted.{IsPermutation-append_right, IsPermutation-cons, IsPermutation-keeps, IsPermutation-middle, IsPermutation-refl, IsPermutation-swap, IsPermutation-sym, IsPermutation-trans, length_permutation}
use lib.ListN.{get_or}

-- Where x stands in a list that has it and these others: in front, before the others; or behind the front, which is one of the others.
abbrev StandsIn : {X : Type 0} → X → List X → List X → Type 0
StandsIn x xs [] = ⊥
StandsIn {X} x xs (h ∷ t) = ((h ≡ x) × IsPermutation xs t) ⊎ ((w : List X) × IsPermutation t (x ∷ w) × IsPermutation xs (h ∷ w))

-- it stands so in each list with the same elements, where the others are fewer than so many
abbrev Stands : Type 0 → ℕ → Type 0
Stands X n = (x : X) (xs l : List X) → length xs < n → IsPermutation (x ∷ xs) l → StandsIn x xs l

module _ {X : Type 0} where
  abbrev Same : List X → List X → Type 0
  Same = IsPermutation

  flip : (a b : X) (l : List X) → Same (a ∷ b ∷ l) (b ∷ a ∷ l)
  flip a b l = IsPermutation-middle (a ∷ []) b l

  abbrev rest : List X → ℕ → List X
  rest t k = take k t ++ drop (suc k) t

  picked : (t : List X) (k : ℕ) (d : X) → k < length t → Same t (get_or t k d ∷ rest t k)
  picked t k d lt =
      let whole : t ≡ take k t ++ get_or t k d ∷ drop (suc k) t = sym (set-get_or t k d) ∙ set_split t k (get_or t k d) lt in
      subst (λ (l : List X). Same l (get_or t k d ∷ rest t k)) (sym whole) (IsPermutation-middle (take k t) (get_or t k d) (drop (suc k) t))

  replaced : (t : List X) (k : ℕ) (h : X) → k < length t → Same (set t k h) (h ∷ rest t k)
  replaced t k h lt =
      subst (λ (l : List X). Same l (h ∷ rest t k)) (sym (set_split t k h lt)) (IsPermutation-middle (take k t) h (drop (suc k) t))

  -- the front changes places with an element behind it
  to_the_front : (n : ℕ) → Stands X n → (x : X) (xs : List X) → length xs ≤ n → (h : X) (t : List X) (k : ℕ) (d : X) → k < length t → StandsIn x xs (h ∷ t)
      → StandsIn x xs (get_or t k d ∷ set t k h)
  to_the_front n fewer x xs few h t k d lt (inl (is, same)) =
      inr (rest t k, subst (λ (e : X). Same (set t k h) (e ∷ rest t k)) is (replaced t k h lt), IsPermutation-trans _ _ _ same (picked t k d lt))
  to_the_front n fewer x xs few h t k d lt (inr (w, behind, others)) =
      let long = length_permutation xs (h ∷ w) others in
      let both : Same (x ∷ w) (get_or t k d ∷ rest t k) = IsPermutation-trans _ _ _ (IsPermutation-sym _ _ behind) (picked t k d lt) in
      elim (fewer x w (get_or t k d ∷ rest t k) (omega arith) both) [
        | inl (is, same) ↦ inl (is, IsPermutation-trans _ _ _ others (IsPermutation-trans _ _ _ (IsPermutation-cons h _ _ same) (IsPermutation-sym _ _ (replaced t k h lt))))
        | inr (v, deeper, more) ↦ inr (
          h ∷ v,
          IsPermutation-trans _ _ _ (replaced t k h lt) (IsPermutation-trans _ _ _ (IsPermutation-cons h _ _ deeper) (flip h x v)),
          IsPermutation-trans _ _ _ others (IsPermutation-trans _ _ _ (IsPermutation-cons h _ _ more) (flip h (get_or t k d) v)),
        )
      ]

  -- two elements behind the front change places
  behind_the_front : (x : X) (xs : List X) (h : X) (t u : List X) → Same t u → StandsIn x xs (h ∷ t) → StandsIn x xs (h ∷ u)
  behind_the_front x xs h t u same (inl (is, all)) = inl (is, IsPermutation-trans _ _ _ all same)
  behind_the_front x xs h t u same (inr (w, behind, others)) = inr (w, IsPermutation-trans _ _ _ (IsPermutation-sym _ _ same) behind, others)

  exchanged : (n : ℕ) → Stands X n → (x : X) (xs : List X) → length xs ≤ n → (l : List X) (i j : ℕ) (d : X) → i < length l → j < length l → StandsIn x xs l
      → StandsIn x xs (set (set l i (get_or l j d)) j (get_or l i d))
  exchanged n fewer x xs few [] i j d p q h = absurd h
  exchanged n fewer x xs few (a ∷ t) zero zero d p q h = h
  exchanged n fewer x xs few (a ∷ t) zero (suc k) d p q h = to_the_front n fewer x xs few a t k d (omega arith) h
  exchanged n fewer x xs few (a ∷ t) (suc k) zero d p q h = to_the_front n fewer x xs few a t k d (omega arith) h
  exchanged n fewer x xs few (a ∷ t) (suc i) (suc j) d p q h =
      behind_the_front x xs a t (set (set t i (get_or t j d)) j (get_or t i d)) (IsPermutation-swap t _ i j (omega arith) (omega arith) (swap_is t i j d (omega arith) (omega arith))) h

  stands : (n : ℕ) → Stands X n
  stands zero x xs l few same = absurd (omega arith)
  stands (suc n) x xs l few same =
      IsPermutation-keeps (x ∷ xs) (StandsIn x xs) (inl (refl, IsPermutation-refl xs))
      (λ m i j p q h. subst (StandsIn x xs) (swap_is m i j x p q) (exchanged n (stands n) x xs (omega arith) m i j x p q h)) l same

  pub stands_in : (x : X) (xs l : List X) → Same (x ∷ xs) l → StandsIn x xs l
  stands_in x xs l same = stands (suc (length xs)) x xs l (omega arith) same

  without_one : (x : X) (xs ys : List X) → Same (x ∷ xs) (x ∷ ys) → Same xs ys
  without_one x xs ys same = elim (stands_in x xs (x ∷ ys) same) [
    | inl (is, all) ↦ all
    | inr (w, behind, others) ↦ IsPermutation-trans _ _ _ others (IsPermutation-sym _ _ behind)
  ]

  -- lists that have the same elements with these behind them have the same elements
  pub without : (zs xs ys : List X) → Same (xs ++ zs) (ys ++ zs) → Same xs ys
  without [] xs ys same = subst (λ (l : List X). Same xs l) (append-nil ys) (subst (λ (l : List X). Same l (ys ++ [])) (append-nil xs) same)
  without (z ∷ zs) xs ys same =
      without zs xs ys (without_one z (xs ++ zs) (ys ++ zs)
      (IsPermutation-trans _ _ _ (IsPermutation-sym _ _ (IsPermutation-middle xs z zs)) (IsPermutation-trans _ _ _ same (IsPermutation-middle ys z zs))))

-- what each element gives is the same
module _ {X Y : Type 0} (f : X → List Y) where
  gives_behind : (h x : X) (w : List X) → IsPermutation (f x ++ (f h ++ flat_map f w)) (f h ++ (f x ++ flat_map f w))
  gives_behind h x w = around (f x) (f h) (flat_map f w)
    where
      around : (ks ms cs : List Y) → IsPermutation (ks ++ (ms ++ cs)) (ms ++ (ks ++ cs))
      around [] ms cs = IsPermutation-refl (ms ++ cs)
      around (k ∷ ks) ms cs = IsPermutation-trans _ _ _ (IsPermutation-cons k _ _ (around ks ms cs)) (IsPermutation-sym _ _ (IsPermutation-middle ms k (ks ++ cs)))

  given_same : (n : ℕ) (xs l : List X) → length xs ≤ n → IsPermutation xs l → IsPermutation (flat_map f xs) (flat_map f l)
  given_same n [] [] few same = IsPermutation-refl []
  given_same n [] (h ∷ t) few same = let long = length_permutation [] (h ∷ t) same in absurd (omega arith)
  given_same zero (x ∷ xs) l few same = absurd (omega arith)
  given_same (suc n) (x ∷ xs) [] few same = let long = length_permutation (x ∷ xs) [] same in absurd (omega arith)
  given_same (suc n) (x ∷ xs) (h ∷ t) few same = elim (stands_in x xs (h ∷ t) same) [
    | inl (is, all) ↦ rw (flat_map-cons f x xs, flat_map-cons f h t, is) (IsPermutation-append_right (f x) _ _ (given_same n xs t (omega arith) all))
    | inr (w, behind, others) ↦
        let long = length_permutation xs (h ∷ w) others in
        let first : IsPermutation (f x ++ flat_map f xs) (f x ++ (f h ++ flat_map f w)) =
        IsPermutation-append_right (f x) _ _ (subst (λ (l : List Y). IsPermutation (flat_map f xs) l) (flat_map-cons f h w) (given_same n xs (h ∷ w) (omega arith) others)) in
        let last : IsPermutation (f h ++ (f x ++ flat_map f w)) (f h ++ flat_map f t) =
        IsPermutation-append_right (f h) _ _ (subst (λ (l : List Y). IsPermutation l (flat_map f t)) (flat_map-cons f x w) (given_same n (x ∷ w) t (omega arith) (IsPermutation-sym _ _ behind))) in
        rw (flat_map-cons f x xs, flat_map-cons f h t) (IsPermutation-trans _ _ _ first (IsPermutation-trans _ _ _ (gives_behind h x w) last))
  ]

  pub flat_map_same : (xs l : List X) → IsPermutation xs l → IsPermutation (flat_map f xs) (flat_map f l)
  flat_map_same xs l same = given_same (length xs) xs l (omega arith) same
