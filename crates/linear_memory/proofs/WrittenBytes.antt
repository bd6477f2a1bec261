-- Bytes that are written over others.
use Rattle.std.proofs.Common.{◌≡◌, ℕ, zero, suc, ◌+◌, ◌-◌, ◌<◌, ◌≤◌, ◌⊎◌, ⊎_elim, inl, inr, List, [], ◌∷◌, ◌++◌, length, take, drop, get_or, refl, sym, ap, ◌∙◌, arith}
use Rattle.std.proofs.lemmas.List.{append_assoc, drop-append-le, drop-drop, drop-take, get_or-append_right, get_or_append_left, length-drop, length-take, length-take-le, take-append-drop, take-append-le, take-take}
use Rattle.wasm_spec.specs.Store.{written}

-- the list after p was written over what lies from `at` to k
abbrev over : ℕ → ℕ → List ℕ → List ℕ → List ℕ
over at k p xs = take at xs ++ (p ++ drop k xs)

take-over : (at k : ℕ) (p xs : List ℕ) (n : ℕ) → k ≡ at + length p → k ≤ n → n ≤ length xs → take n (over at k p xs) ≡ over at k p (take n xs)
take-over zero zero [] xs n e h l = refl
take-over zero (suc k) [] xs n e h l = absurd (omega arith)
take-over zero zero (b ∷ p) xs n e h l = absurd (omega arith)
take-over zero (suc k) (b ∷ p) xs zero e h l = absurd (omega arith)
take-over zero (suc k) (b ∷ p) [] (suc n) e h l = absurd (omega arith)
take-over zero (suc k) (b ∷ p) (x ∷ xs) (suc n) e h l = ap (λ (l : List ℕ). b ∷ l) (take-over zero k p xs n (omega arith) (omega arith) (omega arith))
take-over (suc at) zero p xs n e h l = absurd (omega arith)
take-over (suc at) (suc k) p xs zero e h l = absurd (omega arith)
take-over (suc at) (suc k) p [] (suc n) e h l = absurd (omega arith)
take-over (suc at) (suc k) p (x ∷ xs) (suc n) e h l = ap (λ (l : List ℕ). x ∷ l) (take-over at k p xs n (omega arith) (omega arith) (omega arith))

drop-over : (at k : ℕ) (p xs : List ℕ) (n : ℕ) → k ≡ at + length p → k ≤ n → n ≤ length xs → drop n (over at k p xs) ≡ drop n xs
drop-over zero zero [] xs n e h l = refl
drop-over zero (suc k) [] xs n e h l = absurd (omega arith)
drop-over zero zero (b ∷ p) xs n e h l = absurd (omega arith)
drop-over zero (suc k) (b ∷ p) xs zero e h l = absurd (omega arith)
drop-over zero (suc k) (b ∷ p) [] (suc n) e h l = absurd (omega arith)
drop-over zero (suc k) (b ∷ p) (x ∷ xs) (suc n) e h l = drop-over zero k p xs n (omega arith) (omega arith) (omega arith)
drop-over (suc at) zero p xs n e h l = absurd (omega arith)
drop-over (suc at) (suc k) p xs zero e h l = absurd (omega arith)
drop-over (suc at) (suc k) p [] (suc n) e h l = absurd (omega arith)
drop-over (suc at) (suc k) p (x ∷ xs) (suc n) e h l = drop-over at k p xs n (omega arith) (omega arith) (omega arith)

outside_over : (at k : ℕ) (p xs : List ℕ) (i : ℕ) → k ≡ at + length p → k ≤ length xs → (i < at) ⊎ (k ≤ i) → get_or (over at k p xs) i 0 ≡ get_or xs i 0
outside_over zero zero [] xs i e h w = refl
outside_over zero (suc k) [] xs i e h w = absurd (omega arith)
outside_over zero zero (b ∷ p) xs i e h w = absurd (omega arith)
outside_over zero (suc k) (b ∷ p) [] i e h w = absurd (omega arith)
outside_over zero (suc k) (b ∷ p) (x ∷ xs) zero e h w = absurd (⊎_elim (λ (l : 0 < 0). omega arith) (λ (l : suc k ≤ 0). omega arith) w)
outside_over zero (suc k) (b ∷ p) (x ∷ xs) (suc i) e h w =
    outside_over zero k p xs i (omega arith) (omega arith) (⊎_elim (λ (l : suc i < 0). absurd (omega arith)) (λ (l : suc k ≤ suc i). inr (omega arith)) w)
outside_over (suc at) zero p xs i e h w = absurd (omega arith)
outside_over (suc at) (suc k) p [] i e h w = absurd (omega arith)
outside_over (suc at) (suc k) p (x ∷ xs) zero e h w = refl
outside_over (suc at) (suc k) p (x ∷ xs) (suc i) e h w =
    outside_over at k p xs i (omega arith) (omega arith) (⊎_elim (λ (l : suc i < suc at). inl (omega arith)) (λ (l : suc k ≤ suc i). inr (omega arith)) w)

pub take-written : (at : ℕ) (p xs : List ℕ) (n : ℕ) → at + length p ≤ n → n ≤ length xs → take n (written xs at p) ≡ written (take n xs) at p
take-written at p xs n h l = take-over at (at + length p) p xs n refl h l

pub drop-written : (at : ℕ) (p xs : List ℕ) (n : ℕ) → at + length p ≤ n → n ≤ length xs → drop n (written xs at p) ≡ drop n xs
drop-written at p xs n h l = drop-over at (at + length p) p xs n refl h l

pub outside_written : (at : ℕ) (p xs : List ℕ) (i : ℕ) → at + length p ≤ length xs → (i < at) ⊎ (at + length p ≤ i) → get_or (written xs at p) i 0 ≡ get_or xs i 0
outside_written at p xs i h w = outside_over at (at + length p) p xs i refl h w

-- a place within what was written
pub inside_written : (at : ℕ) (p xs : List ℕ) (i : ℕ) → at + length p ≤ length xs → at ≤ i → i < at + length p → get_or (written xs at p) i 0 ≡ get_or p (i - at) 0
inside_written at p xs i h l u =
    get_or-append_right (take at xs) (p ++ drop (at + length p) xs) at i 0 (length-take-le at xs (omega arith)) l
    ∙ get_or_append_left p (drop (at + length p) xs) 0 (i - at) (omega arith)

-- ---- a part of the bytes

pub part-length : (from n : ℕ) (xs : List ℕ) → from + n ≤ length xs → length (take n (drop from xs)) ≡ n
part-length from n xs h = simp (length-take, length-drop) (omega arith)

-- a part of the first bytes is that part of all
pub part-of_first : (from n size : ℕ) (xs : List ℕ) → from + n ≤ size → take n (drop from (take size xs)) ≡ take n (drop from xs)
part-of_first from n size xs h =
    let m : ℕ = size - from in
    let whole : from + m ≡ size = omega arith in
    ap (λ (k : ℕ). take n (drop from (take k xs))) (sym whole) ∙ ap (take n) (drop-take from m xs) ∙ take-take n m (drop from xs) (omega arith)

-- what is written over itself stays
pub written-same : (at n : ℕ) (xs : List ℕ) → at + n ≤ length xs → written xs at (take n (drop at xs)) ≡ xs
written-same at n xs h =
    let long = part-length at n xs h in
    ap (λ (k : ℕ). take at xs ++ (take n (drop at xs) ++ drop (at + k) xs)) long
    ∙ ap (λ (l : List ℕ). take at xs ++ (take n (drop at xs) ++ l)) (sym (drop-drop n at xs))
    ∙ ap (λ (l : List ℕ). take at xs ++ l) (take-append-drop n (drop at xs))
    ∙ take-append-drop at xs

-- ---- bytes, and others after them

-- a part of the first is that part of all
pub part-of_front : (from n : ℕ) (xs ys : List ℕ) → from + n ≤ length xs → take n (drop from (xs ++ ys)) ≡ take n (drop from xs)
part-of_front from n xs ys h =
    ap (take n) (drop-append-le from xs ys (omega arith)) ∙ take-append-le n (drop from xs) ys (omega (arith, length-drop from xs))

-- what is written over the first leaves the others
pub written-front : (at : ℕ) (p xs ys : List ℕ) → at + length p ≤ length xs → written (xs ++ ys) at p ≡ written xs at p ++ ys
written-front at p xs ys h =
    let k : ℕ = at + length p in
    ap (λ (l : List ℕ). l ++ (p ++ drop k (xs ++ ys))) (take-append-le at xs ys (omega arith))
    ∙ ap (λ (l : List ℕ). take at xs ++ (p ++ l)) (drop-append-le k xs ys h)
    ∙ ap (λ (l : List ℕ). take at xs ++ l) (sym (append_assoc p (drop k xs) ys))
    ∙ sym (append_assoc (take at xs) (p ++ drop k xs) ys)
