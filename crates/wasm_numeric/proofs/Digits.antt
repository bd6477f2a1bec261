-- The binary digits of a number that is put together of two, and of one that is shifted or rotated.
use Rattle.std.proofs.Common.{◌≡◌, ℕ, zero, suc, ◌+◌, ◌-◌, ◌*◌, ◌/◌, ◌%◌, ◌^◌, ◌<◌, List, ◌∷◌, ◌++◌, take, drop, refl, sym, ap, ◌∙◌, subst, arith, zero-add}
use Rattle.std.proofs.lemmas.Nat.{div-add-mod', pow_pos}
use Rattle.std.proofs.Math.ListN.{replicate}
use Rattle.std.proofs.Math.Nat.{pow-suc, add_comm, mod-lt}
use Rattle.std.proofs.Math.Path.{ap₂}
use Rattle.std.proofs.Math.Pow.{shr_lt}
use Rattle.std.proofs.Math.Seq.{take-append_seam, drop-append_seam}
use Rattle.wasm_spec.specs.Operators.{binary_digits}
use Rattle.wasm_numeric.proofs.StdOperators.{digits-length, moved-up}

pub digits-zero : (n : ℕ) → binary_digits n 0 ≡ replicate n 0
unfolding binary_digits
digits-zero zero = refl
digits-zero (suc n) = ap (λ (ds : List ℕ). 0 ∷ ds) (digits-zero n)

pub digits-ones : (n : ℕ) → binary_digits n (2 ^ n - 1) ≡ replicate n 1
unfolding binary_digits
digits-ones zero = refl
digits-ones (suc n) =
    let some = pow_pos n in
    let twice : 2 ^ suc n ≡ 2 ^ n * 2 = pow-suc 2 n in
    let half : (2 ^ suc n - 1) / 2 ≡ 2 ^ n - 1 = omega arith in
    let odd : (2 ^ suc n - 1) % 2 ≡ 1 = omega arith in
    ap₂ (λ (d i : ℕ). d ∷ binary_digits n i) odd half ∙ ap (λ (ds : List ℕ). 1 ∷ ds) (digits-ones n)

doubled : (m y : ℕ) → y * 2 ^ suc m ≡ y * 2 ^ m * 2
doubled m y = ap (λ (p : ℕ). y * p) (pow-suc 2 m) ∙ grind arith

-- m digits below k others
pub digits-add : (m k x y : ℕ) → x < 2 ^ m → binary_digits (m + k) (x + y * 2 ^ m) ≡ binary_digits m x ++ binary_digits k y
unfolding binary_digits
digits-add zero k x y h = let none : x + y * 1 ≡ y = omega arith in ap₂ binary_digits (zero-add k) none
digits-add (suc m) k x y h =
    let twice : 2 ^ suc m ≡ 2 ^ m * 2 = pow-suc 2 m in
    let count : suc m + k ≡ suc (m + k) = omega arith in
    let upper : y * 2 ^ suc m ≡ y * 2 ^ m * 2 = doubled m y in
    let half : (x + y * 2 ^ suc m) / 2 ≡ x / 2 + y * 2 ^ m = omega arith in
    let lowest : (x + y * 2 ^ suc m) % 2 ≡ x % 2 = omega arith in
    ap (λ (n : ℕ). binary_digits n (x + y * 2 ^ suc m)) count
    ∙ ap₂ (λ (d i : ℕ). d ∷ binary_digits (m + k) i) lowest half
    ∙ ap (λ (ds : List ℕ). x % 2 ∷ ds) (digits-add m k (x / 2) y (omega arith))

-- the m lowest digits, and the k above them
pub digits-split : (m k a : ℕ) → binary_digits (m + k) a ≡ binary_digits m (a % 2 ^ m) ++ binary_digits k (a / 2 ^ m)
digits-split m k a =
    let parts : a ≡ a % 2 ^ m + a / 2 ^ m * 2 ^ m = sym (add_comm (a % 2 ^ m) (a / 2 ^ m * 2 ^ m) ∙ div-add-mod' a (2 ^ m)) in
    ap (binary_digits (m + k)) parts ∙ digits-add m k (a % 2 ^ m) (a / 2 ^ m) (mod-lt a (pow_pos m))

pub lowest-digits : (m k a : ℕ) → take m (binary_digits (m + k) a) ≡ binary_digits m (a % 2 ^ m)
lowest-digits m k a =
    let low : List ℕ = binary_digits m (a % 2 ^ m) in
    let high : List ℕ = binary_digits k (a / 2 ^ m) in
    ap (take m) (digits-split m k a) ∙ ap (λ (i : ℕ). take i (low ++ high)) (sym (digits-length m (a % 2 ^ m))) ∙ take-append_seam low high

pub highest-digits : (m k a : ℕ) → drop m (binary_digits (m + k) a) ≡ binary_digits k (a / 2 ^ m)
highest-digits m k a =
    let low : List ℕ = binary_digits m (a % 2 ^ m) in
    let high : List ℕ = binary_digits k (a / 2 ^ m) in
    ap (drop m) (digits-split m k a) ∙ ap (λ (i : ℕ). drop i (low ++ high)) (sym (digits-length m (a % 2 ^ m))) ∙ drop-append_seam low high

-- a of m + k digits, moved up by k places; what leaves comes in below
pub digits-moved-up : (m k a : ℕ) → a < 2 ^ (m + k)
    → binary_digits (m + k) (a * 2 ^ k % 2 ^ (m + k) + a / 2 ^ m) ≡ drop m (binary_digits (m + k) a) ++ take m (binary_digits (m + k) a)
digits-moved-up m k a h =
    let low : ℕ = a % 2 ^ m in
    let high : ℕ = a / 2 ^ m in
    let fits : high < 2 ^ k = shr_lt k m (subst (λ (n : ℕ). a < 2 ^ n) (add_comm m k) h) in
    let value : a * 2 ^ k % 2 ^ (m + k) + high ≡ high + low * 2 ^ k = ap (λ (x : ℕ). x + high) (moved-up a m k) ∙ add_comm (low * 2 ^ k) high in
    ap₂ binary_digits (add_comm m k) value ∙ digits-add k m high low fits
    ∙ sym (ap₂ (λ (xs ys : List ℕ). xs ++ ys) (highest-digits m k a) (lowest-digits m k a))

-- a of m + k digits, moved up by k places; zeros come in below
pub digits-zeros-below : (m k a : ℕ) → binary_digits (m + k) (a * 2 ^ k % 2 ^ (m + k)) ≡ replicate k 0 ++ take m (binary_digits (m + k) a)
digits-zeros-below m k a =
    let low : ℕ = a % 2 ^ m in
    ap₂ binary_digits (add_comm m k) (moved-up a m k ∙ sym (zero-add (low * 2 ^ k))) ∙ digits-add k m 0 low (pow_pos k)
    ∙ sym (ap₂ (λ (xs ys : List ℕ). xs ++ ys) (sym (digits-zero k)) (lowest-digits m k a))

-- the upper m digits of k + m, moved down by k places; k digits come in above
pub digits-above : (k m a y : ℕ) (above : List ℕ) → a < 2 ^ (k + m) → binary_digits k y ≡ above
    → binary_digits (k + m) (a / 2 ^ k + y * 2 ^ m) ≡ drop k (binary_digits (k + m) a) ++ above
digits-above k m a y above h e =
    let fits : a / 2 ^ k < 2 ^ m = shr_lt m k (subst (λ (n : ℕ). a < 2 ^ n) (add_comm k m) h) in
    ap (λ (n : ℕ). binary_digits n (a / 2 ^ k + y * 2 ^ m)) (add_comm k m) ∙ digits-add m k (a / 2 ^ k) y fits
    ∙ ap₂ (λ (xs ys : List ℕ). xs ++ ys) (sym (highest-digits k m a)) e
