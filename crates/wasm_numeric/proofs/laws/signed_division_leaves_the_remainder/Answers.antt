use Rattle.wasm_spec.specs.Operators.{bit_width}
use Rattle.wasm_numeric.proofs.Division.{sign-kept, smaller, whole-again}
use Rattle.wasm_numeric.proofs.Shifts.{some_bits}
use Rattle.wasm_numeric.proofs.laws.signed_division_leaves_the_remainder.Goals as goal

pub returns : goal.returns
returns c = record {
  whole = λ w a b q r fits_a fits_b e f. whole-again (bit_width w) a b q r (some_bits w) fits_a fits_b e f;
  smaller = λ w a b r fits_a fits_b e. smaller (bit_width w) a b r (some_bits w) fits_a fits_b e;
  sign = λ w a b r fits e. sign-kept (bit_width w) a b r (some_bits w) fits e;
}
