use Rattle.wasm_spec.specs.Operators.{bit_width, pack_bits}
use Rattle.wasm_numeric.proofs.Extensions.{extended-digits, extended-value, some_packed}
use Rattle.wasm_numeric.proofs.laws.sign_extensions_copy_a_digit.Goals as goal

pub returns : goal.returns
returns c = record {
  digits = λ w p a fits. extended-digits (pack_bits p) (bit_width w) a (some_packed p) fits;
  value = λ w p a fits. extended-value (pack_bits p) (bit_width w) a (some_packed p) fits;
}
