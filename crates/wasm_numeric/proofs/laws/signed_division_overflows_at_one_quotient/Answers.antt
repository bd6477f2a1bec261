use Rattle.wasm_spec.specs.Operators.{bit_width}
use Rattle.wasm_numeric.proofs.Division.{overflow-is}
use Rattle.wasm_numeric.proofs.Shifts.{some_bits}
use Rattle.wasm_numeric.proofs.laws.signed_division_overflows_at_one_quotient.Goals as goal

pub returns : goal.returns
returns c = λ w a b fits_a fits_b some_divisor. overflow-is (bit_width w) a b (some_bits w) fits_a fits_b some_divisor
