-- The quotient of signed values that std gives.
use Rattle.std.proofs.Common.{◌≡◌, ℕ, suc, ◌-◌, ◌^◌, ◌<◌, Bool, true, false, ltb, refl, sym, ap, ◌∙◌, subst, arith}
use Rattle.std.specs.Prelude.{◌==◌, ℤ, pos, negsuc, cond, Ok, Err, int_div}
use Rattle.std.specs.Int.{cast_signed, cast_unsigned}
use Rattle.std.specs.Int.RustNames.{FitsSigned}
use Rattle.std.specs.Int.Signed.{mag}
use Rattle.std.proofs.lemmas.Bool.Decides.{nat_tests}
use Rattle.std.proofs.lemmas.Int.{ints, of_z-to_z, to_z-of_z}
use Rattle.std.proofs.Math.Path.{ap₂}
use Rattle.wasm_values.specs.declared.outcome.TrapKind.TheVariants.{Divide, Overflow}
use Rattle.wasm_spec.specs.Operators.{signed, unsigned, overflows, div_s}
use Rattle.wasm_numeric.proofs.Signed.{by_sign}
use Rattle.wasm_numeric.proofs.Division.{least-quotient}
use mir.Syntax.{Width}
use mir.Val.{bits, hbits}

-- std reads a number as the same signed value
read : (w : Width) (a : ℕ) → hbits w ≡ bits w - 1 → a < 2 ^ bits w → cast_signed w a ≡ signed (bits w) a
read w a half fits =
    let same : 2 ^ hbits w ≡ 2 ^ (bits w - 1) = ap (λ (k : ℕ). 2 ^ k) half in
    by_sign (bits w) a fits
    (λ low e. let f : cast_signed w a ≡ pos a = omega (arith, ints) in f ∙ sym e)
    (λ high e.
    let large : ltb a (2 ^ hbits w) ≡ false = grind (arith, nat_tests) in
    let f : cast_signed w a ≡ negsuc (2 ^ bits w - suc a) = rw large refl in
    f ∙ sym e)

-- and as it is passed on
passed : (w : Width) (a : ℕ) (x : ℤ) → hbits w ≡ bits w - 1 → a < 2 ^ bits w → x ≡ cast_signed w a → cast_signed w (cast_unsigned w x) ≡ signed (bits w) a
passed w a x half fits is = ap (λ (z : ℤ). cast_signed w (cast_unsigned w z)) is ∙ ap (cast_signed w) (of_z-to_z w a fits) ∙ read w a half fits

written : (w : Width) (z : ℤ) → cast_unsigned w z ≡ unsigned (bits w) z
written w (pos j) = refl
written w (negsuc j) = refl

-- a quotient that fits is that of the definition
pub quotient_given : (w : Width) (a b q : ℕ) (x y z : ℤ) → hbits w ≡ bits w - 1 → 0 < bits w → a < 2 ^ bits w → b < 2 ^ bits w → 0 < b → x ≡ cast_signed w a → y ≡ cast_signed w b
    → let d = int_div (cast_signed w (cast_unsigned w x)) (cast_signed w (cast_unsigned w y)) in FitsSigned w d → z ≡ d
    → q ≡ cast_unsigned w (cast_signed w (cast_unsigned w z)) → Ok q ≡ div_s (bits w) a b
quotient_given w a b q x y z half some fits_a fits_b divisor is_x is_y fits is_z is_q = given (overflows (bits w) a b) refl
  where
    quotient : z ≡ int_div (signed (bits w) a) (signed (bits w) b)
    quotient = is_z ∙ ap₂ int_div (passed w a x half fits_a is_x) (passed w b y half fits_b is_y)

    fitting : FitsSigned w z
    fitting = subst (FitsSigned w) (sym is_z) fits

    value : q ≡ unsigned (bits w) (int_div (signed (bits w) a) (signed (bits w) b))
    value = is_q ∙ ap (cast_unsigned w) (to_z-of_z w z fitting) ∙ written w z ∙ ap (unsigned (bits w)) quotient

    given : (over : Bool) → overflows (bits w) a b ≡ over → Ok q ≡ div_s (bits w) a b
    given true is =
        let large : mag z ≡ 2 ^ hbits w = ap mag (quotient ∙ least-quotient (bits w) a b some is) ∙ ap (λ (k : ℕ). 2 ^ k) (sym half) in
        absurd (omega (arith, large, fitting.sfits))
    given false is =
        let not_zero : (b == 0) ≡ false = grind (arith, nat_tests) in
        ap Ok value ∙ sym (ap₂ (λ (s t : Bool). cond s (Err Divide) (cond t (Err Overflow) (Ok (unsigned (bits w) (int_div (signed (bits w) a) (signed (bits w) b)))))) not_zero is)
