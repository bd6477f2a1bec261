use Rattle.std.proofs.Common.{◌%◌}
use Rattle.wasm_spec.specs.Operators.{bit_width}
use Rattle.wasm_numeric.proofs.Shifts.{count_below, sign_above, some_bits, zeros_above, zeros_below}
use Rattle.wasm_numeric.proofs.laws.shifts_move_the_digits.Goals as goal

pub returns : goal.returns
returns c = record {
  left = λ w a b fits. zeros_below (bit_width w) a (b % bit_width w) (count_below w b);
  unsigned_right = λ w a b fits. zeros_above (bit_width w) a (b % bit_width w) fits (count_below w b);
  signed_right = λ w a b fits. sign_above (bit_width w) a (b % bit_width w) (some_bits w) fits (count_below w b);
}
