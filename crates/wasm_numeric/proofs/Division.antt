-- Signed division and its remainder.
use Rattle.std.proofs.Common.{◌≡◌, ℕ, zero, suc, ◌+◌, ◌-◌, ◌*◌, ◌/◌, ◌^◌, ◌<◌, ◌≤◌, Bool, true, false, refl, sym, ap, ◌∙◌, subst, arith}
use Rattle.std.specs.Prelude.{◌==◌, ◌↔◌, ℤ, pos, negsuc, ◌+ℤ◌, ◌*ℤ◌, ◌≤ℤ◌, cond, Ok, Err, int_div, int_rem, unsigned_abs}
use Rattle.std.specs.Int.Signed.{mag, mag_rem}
use Rattle.std.proofs.Math.IntN.{neg_ℤ}
use Rattle.std.proofs.lemmas.Bool.Decides.{nat_tests}
use Rattle.std.proofs.lemmas.Int.{ints, quot-rem, rem_below}
use Rattle.std.proofs.lemmas.Nat.{pow_pos}
use Rattle.std.proofs.Math.Nat.{div-le_self, div-mul-le_self, div-one}
use Rattle.std.proofs.Math.Path.{ap₂}
use Rattle.wasm_values.specs.declared.outcome.TrapKind.TheVariants.{Divide, Overflow}
use Rattle.wasm_spec.specs.Operators.{signed, unsigned, overflows, div_s, rem_s}
use Rattle.wasm_numeric.proofs.Signed.{signed-high, twice, unsigned-signed, signed-unsigned, mag-signed, signed-some}

-- ---- quotients of numbers of n bits

-- a number's opposite reaches no further
opposite-below : (n h : ℕ) → 0 < h → n ≤ h → mag (neg_ℤ (pos n)) < h
opposite-below zero h some le = some
opposite-below (suc n) h some le = omega arith

-- by 2 or more, a quotient is at most half
halved : (a b h : ℕ) → suc a ≤ h → suc a / suc (suc b) < h
halved a b h le =
    let q : ℕ = suc a / suc (suc b) in
    let below : q * suc (suc b) ≤ suc a = div-mul-le_self (suc a) (suc (suc b)) in
    let spread : q * suc (suc b) ≡ q * b + q * 2 = grind arith in
    omega arith

pub quotient-fits : (h : ℕ) (x y : ℤ) → mag x < h → ¬ ((x ≡ negsuc (h - 1)) × (y ≡ negsuc 0)) → mag (int_div x y) < h
quotient-fits h (pos a) (pos b) small not_least = let le = div-le_self a b in omega arith
quotient-fits h (pos a) (negsuc b) small not_least = opposite-below (a / suc b) h (omega arith) (let le = div-le_self a (suc b) in omega arith)
quotient-fits h (negsuc a) (pos b) small not_least = opposite-below (suc a / b) h (omega arith) (let le = div-le_self (suc a) b in omega arith)
quotient-fits h (negsuc a) (negsuc (suc b)) small not_least = halved a b h small
quotient-fits h (negsuc a) (negsuc zero) small not_least =
    let whole : suc a / 1 ≡ suc a = div-one (suc a) in
    let other : ¬ (a ≡ h - 1) = λ same. not_least (ap negsuc same, refl) in
    omega arith

-- ---- when the quotient overflows

least : (n a b : ℕ) → overflows n a b ≡ true → (a ≡ 2 ^ (n - 1)) × (b ≡ 2 ^ n - 1)
least n a b e = grind (arith, nat_tests)

not-least : (n a b : ℕ) → 0 < n → a < 2 ^ n → b < 2 ^ n → overflows n a b ≡ false → ¬ ((signed n a ≡ negsuc (2 ^ (n - 1) - 1)) × (signed n b ≡ negsuc 0))
not-least n a b some fits_a fits_b e (low, one) =
    let whole : 2 ^ n ≡ 2 ^ (n - 1) * 2 = twice n some in
    let is_least : a ≡ 2 ^ (n - 1) = sym (unsigned-signed n a fits_a) ∙ ap (unsigned n) low ∙ omega arith in
    let is_one : b ≡ 2 ^ n - 1 = sym (unsigned-signed n b fits_b) ∙ ap (unsigned n) one in
    grind (arith, nat_tests)

-- ---- what an answer tells

quotient-answer : (zero_divisor over : Bool) (v q : ℕ) → cond zero_divisor (Err Divide) (cond over (Err Overflow) (Ok v)) ≡ Ok q → (over ≡ false) × (v ≡ q)
quotient-answer true over v q e = absurd (cc)
quotient-answer false true v q e = absurd (cc)
quotient-answer false false v q e = (refl, cc)

overflow-answer : (zero_divisor over : Bool) (v : ℕ) → cond zero_divisor (Err Divide) (cond over (Err Overflow) (Ok v)) ≡ Err Overflow → over ≡ true
overflow-answer true over v e = absurd (cc)
overflow-answer false true v e = refl
overflow-answer false false v e = absurd (cc)

remainder-answer : (zero_divisor : Bool) (v r : ℕ) → cond zero_divisor (Err Divide) (Ok v) ≡ Ok r → (zero_divisor ≡ false) × (v ≡ r)
remainder-answer true v r e = absurd (cc)
remainder-answer false v r e = (refl, cc)

-- ---- the laws

-- what the answers of division are as signed values
quotient-is : (n a b q : ℕ) → 0 < n → a < 2 ^ n → b < 2 ^ n → div_s n a b ≡ Ok q → signed n q ≡ int_div (signed n a) (signed n b)
quotient-is n a b q some fits_a fits_b e =
    let z : ℤ = int_div (signed n a) (signed n b) in
    let (fine, value) = quotient-answer (b == 0) (overflows n a b) (unsigned n z) q e in
    let small = quotient-fits (2 ^ (n - 1)) (signed n a) (signed n b) (mag-signed n a some fits_a) (not-least n a b some fits_a fits_b fine) in
    ap (signed n) (sym value) ∙ signed-unsigned n z some small

remainder-is : (n a b r : ℕ) → 0 < n → a < 2 ^ n → rem_s n a b ≡ Ok r → signed n r ≡ int_rem (signed n a) (signed n b)
remainder-is n a b r some fits e =
    let z : ℤ = int_rem (signed n a) (signed n b) in
    let (not_zero, value) = remainder-answer (b == 0) (unsigned n z) r e in
    let le = mag_rem (signed n a) (signed n b) in
    let small = mag-signed n a some fits in
    ap (signed n) (sym value) ∙ signed-unsigned n z some (omega arith)

pub whole-again : (n a b q r : ℕ) → 0 < n → a < 2 ^ n → b < 2 ^ n → div_s n a b ≡ Ok q → rem_s n a b ≡ Ok r
    → (signed n q *ℤ signed n b) +ℤ signed n r ≡ signed n a
whole-again n a b q r some fits_a fits_b e f =
    ap₂ (λ (x y : ℤ). (x *ℤ signed n b) +ℤ y) (quotient-is n a b q some fits_a fits_b e) (remainder-is n a b r some fits_a f)
    ∙ quot-rem (signed n a) (signed n b)

pub smaller : (n a b r : ℕ) → 0 < n → a < 2 ^ n → b < 2 ^ n → rem_s n a b ≡ Ok r → unsigned_abs (signed n r) < unsigned_abs (signed n b)
smaller n a b r some fits_a fits_b e =
    let (not_zero, value) = remainder-answer (b == 0) (unsigned n (int_rem (signed n a) (signed n b))) r e in
    let some_divisor : 0 < b = grind (arith, nat_tests) in
    subst (λ (z : ℤ). unsigned_abs z < unsigned_abs (signed n b)) (sym (remainder-is n a b r some fits_a e))
    (rem_below (signed n a) (signed n b) (signed-some n b some_divisor fits_b))

rem-sign : (x y : ℤ) → (pos 0 ≤ℤ x → pos 0 ≤ℤ int_rem x y) × (x ≤ℤ pos 0 → int_rem x y ≤ℤ pos 0)
rem-sign (pos zero) y = (λ h. omega (arith, ints), λ h. omega (arith, ints))
rem-sign (pos (suc a)) y = (λ h. omega (arith, ints), λ h. omega (arith, ints))
rem-sign (negsuc a) y = (λ h. omega (arith, ints), λ h. omega (arith, ints))

pub sign-kept : (n a b r : ℕ) → 0 < n → a < 2 ^ n → rem_s n a b ≡ Ok r
    → (pos 0 ≤ℤ signed n a → pos 0 ≤ℤ signed n r) × (signed n a ≤ℤ pos 0 → signed n r ≤ℤ pos 0)
sign-kept n a b r some fits e =
    subst (λ (z : ℤ). (pos 0 ≤ℤ signed n a → pos 0 ≤ℤ z) × (signed n a ≤ℤ pos 0 → z ≤ℤ pos 0)) (sym (remainder-is n a b r some fits e))
    (rem-sign (signed n a) (signed n b))

-- the quotient of the least signed number by -1
pub least-quotient : (n a b : ℕ) → 0 < n → overflows n a b ≡ true → int_div (signed n a) (signed n b) ≡ pos (2 ^ (n - 1))
least-quotient n a b some e =
    let half : ℕ = 2 ^ (n - 1) in
    let some_half : 0 < half = pow_pos (n - 1) in
    let whole : 2 ^ n ≡ half * 2 = twice n some in
    let (is_least, is_one) = least n a b e in
    let low : signed n a ≡ negsuc (half - 1) = signed-high n a (omega arith) (omega arith) ∙ ap negsuc (omega arith) in
    let one : signed n b ≡ negsuc 0 = signed-high n b (omega arith) (omega arith) ∙ ap negsuc (omega arith) in
    let again : suc (half - 1) ≡ half = omega arith in
    ap₂ int_div low one ∙ ap pos (div-one (suc (half - 1)) ∙ again)

pub overflow-is : (n a b : ℕ) → 0 < n → a < 2 ^ n → b < 2 ^ n → 0 < b
    → (div_s n a b ≡ Err Overflow) ↔ (int_div (signed n a) (signed n b) ≡ pos (2 ^ (n - 1)))
overflow-is n a b some fits_a fits_b some_divisor = (there, λ e. back (overflows n a b) refl e)
  where
    there : div_s n a b ≡ Err Overflow → int_div (signed n a) (signed n b) ≡ pos (2 ^ (n - 1))
    there e = least-quotient n a b some (overflow-answer (b == 0) (overflows n a b) (unsigned n (int_div (signed n a) (signed n b))) e)

    back : (over : Bool) → overflows n a b ≡ over → int_div (signed n a) (signed n b) ≡ pos (2 ^ (n - 1)) → div_s n a b ≡ Err Overflow
    back true is e =
        let not_zero : (b == 0) ≡ false = grind (arith, nat_tests) in
        ap₂ (λ (s t : Bool). cond s (Err Divide) (cond t (Err Overflow) (Ok (unsigned n (int_div (signed n a) (signed n b)))))) not_zero is
    back false is e =
        let small = quotient-fits (2 ^ (n - 1)) (signed n a) (signed n b) (mag-signed n a some fits_a) (not-least n a b some fits_a fits_b is) in
        let large : mag (int_div (signed n a) (signed n b)) ≡ 2 ^ (n - 1) = ap mag e in
        absurd (omega arith)
