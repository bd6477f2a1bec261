-- Numbers of n bits.
use Rattle.std.proofs.Common.{◌≡◌, ℕ, ◌+◌, ◌-◌, ◌*◌, ◌^◌, ◌<◌, ◌≤◌, ap, sym, ◌∙◌, arith}
use Rattle.std.proofs.lemmas.Nat.{pow-add}
use Rattle.std.proofs.Math.Nat.{pow-le-pow_right}

-- seven bits more
pub seven_more : (n : ℕ) → 7 ≤ n → 2 ^ 7 * 2 ^ (n - 7) ≡ 2 ^ n
seven_more n h =
    let e : 7 + (n - 7) ≡ n = omega (arith, h) in
    rw (← pow-add 2 7 (n - 7)) (ap (λ (k : ℕ). 2 ^ k) e)

pub wide : (n m b : ℕ) → 7 < n → m < 2 ^ (n - 7) → b < 256 → 128 * m + (b - 128) < 2 ^ n
wide n m b h lt lb = omega (arith, lt, lb, seven_more n (omega (arith, h)))

pub fits : (n x : ℕ) → n ≤ 32 → x < 2 ^ n → x < 2 ^ 32
fits n x le lt = omega (arith, lt, pow-le-pow_right {n = 2} (omega arith) le)

-- the bounds of a signed number of n bits, and of one of seven bits fewer
pub halves : (n : ℕ) → 7 < n → 128 * 2 ^ (n - 7 - 1) ≡ 2 ^ (n - 1)
halves n h =
    let e : n - 1 - 7 ≡ n - 7 - 1 = omega (arith, h) in
    ap (λ (k : ℕ). 128 * 2 ^ k) (sym e) ∙ seven_more (n - 1) (omega (arith, h))

pub half_fits : (n : ℕ) → n ≤ 64 → 2 ^ (n - 1) ≤ 2 ^ 63
half_fits n h = let le : n - 1 ≤ 63 = omega (arith, h) in pow-le-pow_right {n = 2} (omega arith) le
