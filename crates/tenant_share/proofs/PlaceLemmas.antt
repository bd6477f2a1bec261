-- What stands at a place of a list.
use Rattle.std.proofs.Common.{◌≡◌, ◌≢◌, ℕ, zero, suc, ◌+◌, ◌<◌, ◌⊎◌, List, [], ◌∷◌, ◌++◌, length, get_or, reverse, set, slice_get, Option, None, Some, option_map, refl, ap, subst, inl, inr, arith}
use Rattle.std.specs.List.{All}
use Rattle.std.proofs.lemmas.List.{reverse-append}
use Rattle.std.proofs.lemmas.List.Elements.{All-append, All-cons, All-head, All-nil, All-same, All-tail}
use Rattle.std.proofs.lemmas.Option.{get_or_from_slice_get, none-some, same_Some, slice_get-get_or, slice_get_within}

-- what a function of an option gave, it gave of what is there
pub option_map_some : {A B : Type 0} (f : A → B) (o : Option A) (y : B) → option_map f o ≡ Some y → (x : A) × (o ≡ Some x) × (f x ≡ y)
option_map_some f None y h = absurd (none-some y h)
option_map_some f (Some x) y h = (x, refl, same_Some (f x) y h)

module _ {X : Type 0} where
  -- in two lists, one behind the other, it is a place of the first or of the second
  pub get-append : (xs ys : List X) (k : ℕ) (y : X) → slice_get (xs ++ ys) k ≡ Some y → (slice_get xs k ≡ Some y) ⊎ ((j : ℕ) × (k ≡ length xs + j) × (slice_get ys j ≡ Some y))
  get-append [] ys k y h = inr (k, omega arith, h)
  get-append (x ∷ xs) ys zero y h = inl h
  get-append (x ∷ xs) ys (suc k) y h = elim (get-append xs ys k y h) [
    | inl front ↦ inl front
    | inr back ↦ inr (back.0, (let e = back.1 in omega arith), back.2)
  ]

  pub get_front : (xs ys : List X) (k : ℕ) (y : X) → slice_get xs k ≡ Some y → slice_get (xs ++ ys) k ≡ Some y
  get_front [] ys k y h = absurd (none-some y h)
  get_front (x ∷ xs) ys zero y h = h
  get_front (x ∷ xs) ys (suc k) y h = get_front xs ys k y h

  -- behind a list stands what comes next
  pub get_seam : (xs ys : List X) (y : X) → slice_get (xs ++ y ∷ ys) (length xs) ≡ Some y
  get_seam [] ys y = refl
  get_seam (x ∷ xs) ys y = get_seam xs ys y

  -- where one item was put behind a list, it is a place of the list, or that of the item
  pub get-push : (xs : List X) (x : X) (k : ℕ) (y : X) → slice_get (xs ++ x ∷ []) k ≡ Some y → (slice_get xs k ≡ Some y) ⊎ ((k ≡ length xs) × (x ≡ y))
  get-push [] x zero y h = inr (refl, same_Some x y h)
  get-push [] x (suc k) y h = absurd (none-some y h)
  get-push (z ∷ xs) x zero y h = inl h
  get-push (z ∷ xs) x (suc k) y h = elim (get-push xs x k y h) [
    | inl front ↦ inl front
    | inr last ↦ inr ((let e = last.0 in omega arith), last.1)
  ]

  -- something stands at each place
  pub get_there : (xs : List X) (k : ℕ) → k < length xs → (x : X) × (slice_get xs k ≡ Some x)
  get_there [] k within = absurd (omega arith)
  get_there (x ∷ xs) zero within = (x, refl)
  get_there (x ∷ xs) (suc k) within = get_there xs k (omega arith)

  pub get-set : (xs : List X) (k : ℕ) (y : X) → k < length xs → slice_get (set xs k y) k ≡ Some y
  get-set [] k y within = absurd (omega arith)
  get-set (x ∷ xs) zero y within = refl
  get-set (x ∷ xs) (suc k) y within = get-set xs k y (omega arith)

  pub get-set_elsewhere : (xs : List X) (k j : ℕ) (y : X) → j ≢ k → slice_get (set xs k y) j ≡ slice_get xs j
  get-set_elsewhere [] k j y other = refl
  get-set_elsewhere (x ∷ xs) zero zero y other = absurd (other refl)
  get-set_elsewhere (x ∷ xs) zero (suc j) y other = refl
  get-set_elsewhere (x ∷ xs) (suc k) zero y other = refl
  get-set_elsewhere (x ∷ xs) (suc k) (suc j) y other = get-set_elsewhere xs k j y (λ e. other (omega arith))

  -- what stands in a list with another item at a place
  pub get-set_cases : (xs : List X) (k j : ℕ) (y z : X) → slice_get (set xs k y) j ≡ Some z → ((j ≡ k) × (y ≡ z)) ⊎ (slice_get xs j ≡ Some z)
  get-set_cases [] k j y z h = absurd (none-some z h)
  get-set_cases (x ∷ xs) zero zero y z h = inl (refl, same_Some y z h)
  get-set_cases (x ∷ xs) zero (suc j) y z h = inr h
  get-set_cases (x ∷ xs) (suc k) zero y z h = inr h
  get-set_cases (x ∷ xs) (suc k) (suc j) y z h = elim (get-set_cases xs k j y z h) [
    | inl here ↦ inl (ap suc here.0, here.1)
    | inr elsewhere ↦ inr elsewhere
  ]

  -- what holds of each item, and of what stands at each place
  pub All-at : (P : X → Type 0) (xs : List X) (k : ℕ) (y : X) → All P xs → slice_get xs k ≡ Some y → P y
  All-at P xs k y all there = subst P (get_or_from_slice_get xs k y y there) (all k y (slice_get_within xs k y there))

  pub All-from_places : (P : X → Type 0) (xs : List X) → ((k : ℕ) (y : X) → slice_get xs k ≡ Some y → P y) → All P xs
  All-from_places P xs each = λ k d within. each k (get_or xs k d) (slice_get-get_or xs k d within)

  pub All-reverse : (P : X → Type 0) (xs : List X) → All P xs → All P (reverse xs)
  All-reverse P [] all = all
  All-reverse P (x ∷ xs) all = All-same P (reverse (x ∷ xs)) (reverse xs ++ x ∷ []) (reverse-append (x ∷ []) xs)
      (All-append P (reverse xs) (x ∷ []) (All-reverse P xs (All-tail P x xs all)) (All-cons P x [] (All-head P x xs all) (All-nil P)))
