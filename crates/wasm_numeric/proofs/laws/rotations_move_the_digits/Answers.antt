use Rattle.std.proofs.Common.{◌%◌}
use Rattle.wasm_spec.specs.Operators.{bit_width}
use Rattle.wasm_numeric.proofs.Shifts.{count_below, left, right}
use Rattle.wasm_numeric.proofs.laws.rotations_move_the_digits.Goals as goal

pub returns : goal.returns
returns c = record {
  left = λ w a b fits. left (bit_width w) a (b % bit_width w) fits (count_below w b);
  right = λ w a b fits. right (bit_width w) a (b % bit_width w) fits (count_below w b);
}
