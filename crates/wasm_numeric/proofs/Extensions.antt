-- What the extension of the lowest digits by their sign does to the digits, and to the signed value.
use Rattle.std.proofs.Common.{◌≡◌, ℕ, suc, ◌+◌, ◌-◌, ◌*◌, ◌/◌, ◌%◌, ◌^◌, ◌<◌, ◌≤◌, List, ◌++◌, take, sym, ap, ◌∙◌, subst, arith}
use Rattle.std.specs.Prelude.{ℤ, pos, negsuc}
use Rattle.std.specs.Int.Signed.{mag}
use Rattle.std.proofs.lemmas.Nat.{pow-add, div-mul-add, pow_pos}
use Rattle.std.proofs.Math.ListN.{replicate}
use Rattle.std.proofs.Math.Nat.{mod-lt, div-eq_of_lt, pow-le-pow_right}
use Rattle.wasm_types.specs.declared.instr.PackSize.{PackSize}
use Rattle.wasm_types.specs.declared.instr.PackSize.TheVariants.{Pack8, Pack16, Pack32}
use Rattle.wasm_spec.specs.Operators.{pack_bits, binary_digits, signed, unsigned, wrap}
use Rattle.wasm_numeric.specs.Operators.{extend_low}
use Rattle.wasm_numeric.proofs.Signed.{by_sign, twice, signed-unsigned, mag-signed}
use Rattle.wasm_numeric.proofs.Digits.{digits-zero, digits-ones, digits-add, lowest-digits}

-- the digits of b, which has m of them, below k copies of its highest
copied : (m k b : ℕ) → 0 < m → b < 2 ^ m → binary_digits (m + k) (unsigned (m + k) (signed m b)) ≡ binary_digits m b ++ replicate k (b / 2 ^ (m - 1))
copied m k b some h = by_sign m b h by-low by-high
  where
    by-low : b < 2 ^ (m - 1) → signed m b ≡ pos b
        → binary_digits (m + k) (unsigned (m + k) (signed m b)) ≡ binary_digits m b ++ replicate k (b / 2 ^ (m - 1))
    by-low low e =
        let none : b ≡ b + 0 * 2 ^ m = omega arith in
        ap (λ (z : ℤ). binary_digits (m + k) (unsigned (m + k) z)) e
        ∙ ap (binary_digits (m + k)) none
        ∙ digits-add m k b 0 h
        ∙ ap (λ (l : List ℕ). binary_digits m b ++ l) (digits-zero k)
        ∙ ap (λ (d : ℕ). binary_digits m b ++ replicate k d) (sym (div-eq_of_lt low))

    by-high : 2 ^ (m - 1) ≤ b → signed m b ≡ negsuc (2 ^ m - suc b)
        → binary_digits (m + k) (unsigned (m + k) (signed m b)) ≡ binary_digits m b ++ replicate k (b / 2 ^ (m - 1))
    by-high high e =
        let half : ℕ = 2 ^ (m - 1) in
        let whole : 2 ^ m ≡ half * 2 = twice m some in
        let one : 1 ≡ b / half = sym (ap (λ (x : ℕ). x / half) (omega arith) ∙ div-mul-add 1 half (b - half) (omega arith)) in
        let p : ℕ = 2 ^ m in
        let q : ℕ = 2 ^ k in
        let product : 2 ^ (m + k) ≡ p * q = pow-add 2 m k in
        let some_copies : 0 < q = pow_pos k in
        let r : ℕ = q - 1 in
        let above : q ≡ r + 1 = omega arith in
        let spread : p * q ≡ r * p + p = ap (λ (x : ℕ). p * x) above ∙ grind arith in
        let value : 2 ^ (m + k) - suc (p - suc b) ≡ b + r * p = omega arith in
        ap (λ (z : ℤ). binary_digits (m + k) (unsigned (m + k) z)) e
        ∙ ap (binary_digits (m + k)) value
        ∙ digits-add m k b r h
        ∙ ap (λ (l : List ℕ). binary_digits m b ++ l) (digits-ones k)
        ∙ ap (λ (d : ℕ). binary_digits m b ++ replicate k d) one

pub extended-digits : (m n a : ℕ) → 0 < m → m ≤ n
    → binary_digits n (extend_low m n a) ≡ take m (binary_digits n a) ++ replicate (n - m) (wrap m a / 2 ^ (m - 1))
extended-digits m n a some le =
    let k : ℕ = n - m in
    let whole : m + k ≡ n = omega arith in
    let b : ℕ = a % 2 ^ m in
    subst (λ (x : ℕ). binary_digits x (unsigned x (signed m b)) ≡ take m (binary_digits x a) ++ replicate k (b / 2 ^ (m - 1))) whole
    (copied m k b some (mod-lt a (pow_pos m)) ∙ ap (λ (l : List ℕ). l ++ replicate k (b / 2 ^ (m - 1))) (sym (lowest-digits m k a)))

half-within : (m n : ℕ) → m ≤ n → 2 ^ (m - 1) ≤ 2 ^ (n - 1)
half-within m n le = pow-le-pow_right (omega arith) (omega arith)

pub extended-value : (m n a : ℕ) → 0 < m → m ≤ n → signed n (extend_low m n a) ≡ signed m (wrap m a)
extended-value m n a some le =
    let b : ℕ = a % 2 ^ m in
    let small : mag (signed m b) < 2 ^ (m - 1) = mag-signed m b some (mod-lt a (pow_pos m)) in
    let more : 2 ^ (m - 1) ≤ 2 ^ (n - 1) = half-within m n le in
    signed-unsigned n (signed m b) (omega arith) (omega arith)

pub some_packed : (p : PackSize) → 0 < pack_bits p
some_packed Pack8 = omega arith
some_packed Pack16 = omega arith
some_packed Pack32 = omega arith
