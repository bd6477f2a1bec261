-- What shifts and rotations do to the binary digits.
use Rattle.std.proofs.Common.{◌≡◌, ℕ, suc, ◌+◌, ◌-◌, ◌*◌, ◌/◌, ◌%◌, ◌^◌, ◌<◌, ◌≤◌, List, ◌++◌, take, drop, sym, ap, ◌∙◌, subst, arith}
use Rattle.std.specs.Prelude.{ℤ, pos, negsuc}
use Rattle.std.specs.Int.{int_shr}
use Rattle.std.proofs.lemmas.Nat.{pow-add, div-add-mod', div-mul-add, pow_pos}
use Rattle.std.proofs.Math.ListN.{replicate}
use Rattle.std.proofs.Math.Nat.{add_comm, mod-lt, div-eq_of_lt}
use Rattle.std.proofs.Math.Pow.{shr_lt}
use Rattle.wasm_types.specs.declared.instr.Width.{Width}
use Rattle.wasm_types.specs.declared.instr.Width.TheVariants.{W32, W64}
use Rattle.wasm_spec.specs.Operators.{bit_width, binary_digits, signed, unsigned}
use Rattle.wasm_numeric.proofs.Signed.{by_sign, twice}
use Rattle.wasm_numeric.proofs.Digits.{digits-zero, digits-ones, digits-moved-up, digits-zeros-below, digits-above}

pub left : (n a k : ℕ) → a < 2 ^ n → k ≤ n
    → binary_digits n (a * 2 ^ k % 2 ^ n + a / 2 ^ (n - k)) ≡ drop (n - k) (binary_digits n a) ++ take (n - k) (binary_digits n a)
left n a k h le =
    let m : ℕ = n - k in
    let whole : m + k ≡ n = omega arith in
    subst (λ (x : ℕ). binary_digits x (a * 2 ^ k % 2 ^ x + a / 2 ^ m) ≡ drop m (binary_digits x a) ++ take m (binary_digits x a)) whole
    (digits-moved-up m k a (subst (λ (x : ℕ). a < 2 ^ x) (sym whole) h))

pub right : (n a k : ℕ) → a < 2 ^ n → k ≤ n
    → binary_digits n (a / 2 ^ k + a * 2 ^ (n - k) % 2 ^ n) ≡ drop k (binary_digits n a) ++ take k (binary_digits n a)
right n a k h le =
    let m : ℕ = n - k in
    let whole : k + m ≡ n = omega arith in
    ap (binary_digits n) (add_comm (a / 2 ^ k) (a * 2 ^ m % 2 ^ n))
    ∙ subst (λ (x : ℕ). binary_digits x (a * 2 ^ m % 2 ^ x + a / 2 ^ k) ≡ drop k (binary_digits x a) ++ take k (binary_digits x a)) whole
    (digits-moved-up k m a (subst (λ (x : ℕ). a < 2 ^ x) (sym whole) h))

pub zeros_below : (n a k : ℕ) → k ≤ n → binary_digits n (a * 2 ^ k % 2 ^ n) ≡ replicate k 0 ++ take (n - k) (binary_digits n a)
zeros_below n a k le =
    let m : ℕ = n - k in
    let whole : m + k ≡ n = omega arith in
    subst (λ (x : ℕ). binary_digits x (a * 2 ^ k % 2 ^ x) ≡ replicate k 0 ++ take m (binary_digits x a)) whole (digits-zeros-below m k a)

above : (n a k y : ℕ) (digits : List ℕ) → a < 2 ^ n → k ≤ n → binary_digits k y ≡ digits
    → binary_digits n (a / 2 ^ k + y * 2 ^ (n - k)) ≡ drop k (binary_digits n a) ++ digits
above n a k y digits h le e =
    let m : ℕ = n - k in
    let whole : k + m ≡ n = omega arith in
    subst (λ (x : ℕ). binary_digits x (a / 2 ^ k + y * 2 ^ m) ≡ drop k (binary_digits x a) ++ digits) whole
    (digits-above k m a y digits (subst (λ (x : ℕ). a < 2 ^ x) (sym whole) h) e)

pub zeros_above : (n a k : ℕ) → a < 2 ^ n → k ≤ n → binary_digits n (a / 2 ^ k) ≡ drop k (binary_digits n a) ++ replicate k 0
zeros_above n a k h le =
    let none : a / 2 ^ k ≡ a / 2 ^ k + 0 * 2 ^ (n - k) = omega arith in
    ap (binary_digits n) none ∙ above n a k 0 (replicate k 0) h le (digits-zero k)

-- ---- the shift that copies the sign

-- the digits of a negative number, moved down by k places: copies of 1 come in
shifted-high : (n a k : ℕ) → a < 2 ^ n → k ≤ n → 2 ^ n - suc ((2 ^ n - suc a) / 2 ^ k) ≡ a / 2 ^ k + (2 ^ k - 1) * 2 ^ (n - k)
shifted-high n a k h le =
    let p : ℕ = 2 ^ (n - k) in
    let q : ℕ = 2 ^ k in
    let high : ℕ = a / q in
    let low : ℕ = a % q in
    let whole : n - k + k ≡ n = omega arith in
    let product : 2 ^ n ≡ p * q = ap (λ (x : ℕ). 2 ^ x) (sym whole) ∙ pow-add 2 (n - k) k in
    let fits : high < p = shr_lt (n - k) k (subst (λ (x : ℕ). a < 2 ^ x) (sym whole) h) in
    let small : low < q = mod-lt a (pow_pos k) in
    let parts : high * q + low ≡ a = div-add-mod' a q in
    let t : ℕ = p - suc high in
    let sum : p ≡ t + (1 + high) = omega arith in
    let spread : p * q ≡ t * q + q + high * q = ap (λ (x : ℕ). x * q) sum ∙ grind arith in
    let rest : 2 ^ n - suc a ≡ t * q + (q - suc low) = omega arith in
    let down : (2 ^ n - suc a) / q ≡ t = ap (λ (x : ℕ). x / q) rest ∙ div-mul-add t q (q - suc low) (omega arith) in
    let r : ℕ = q - 1 in
    let above_one : q ≡ r + 1 = omega arith in
    let other : p * q ≡ r * p + p = ap (λ (x : ℕ). p * x) above_one ∙ grind arith in
    ap (λ (x : ℕ). 2 ^ n - suc x) down ∙ omega arith

pub sign_above : (n a k : ℕ) → 0 < n → a < 2 ^ n → k ≤ n
    → binary_digits n (unsigned n (int_shr (signed n a) k)) ≡ drop k (binary_digits n a) ++ replicate k (a / 2 ^ (n - 1))
sign_above n a k some h le = by_sign n a h by-low by-high
  where
    by-low : a < 2 ^ (n - 1) → signed n a ≡ pos a
        → binary_digits n (unsigned n (int_shr (signed n a) k)) ≡ drop k (binary_digits n a) ++ replicate k (a / 2 ^ (n - 1))
    by-low low e =
        ap (λ (z : ℤ). binary_digits n (unsigned n (int_shr z k))) e ∙ zeros_above n a k h le
        ∙ ap (λ (d : ℕ). drop k (binary_digits n a) ++ replicate k d) (sym (div-eq_of_lt low))

    by-high : 2 ^ (n - 1) ≤ a → signed n a ≡ negsuc (2 ^ n - suc a)
        → binary_digits n (unsigned n (int_shr (signed n a) k)) ≡ drop k (binary_digits n a) ++ replicate k (a / 2 ^ (n - 1))
    by-high high e =
        let half : ℕ = 2 ^ (n - 1) in
        let whole : 2 ^ n ≡ half * 2 = twice n some in
        let one : 1 ≡ a / half = sym (ap (λ (x : ℕ). x / half) (omega arith) ∙ div-mul-add 1 half (a - half) (omega arith)) in
        ap (λ (z : ℤ). binary_digits n (unsigned n (int_shr z k))) e
        ∙ ap (binary_digits n) (shifted-high n a k h le)
        ∙ above n a k (2 ^ k - 1) (replicate k 1) h le (digits-ones k)
        ∙ ap (λ (d : ℕ). drop k (binary_digits n a) ++ replicate k d) one

-- ---- at the two widths

pub count_below : (w : Width) (b : ℕ) → b % bit_width w ≤ bit_width w
count_below W32 b = omega arith
count_below W64 b = omega arith

pub some_bits : (w : Width) → 0 < bit_width w
some_bits W32 = omega arith
some_bits W64 = omega arith
