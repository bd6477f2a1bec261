-- Operators that the tables `unary` and `binary` define in place, each as one word of a contract.
use Rattle.std.specs.Prelude.{ℕ, ◌+◌, ◌-◌, ◌*◌, ◌/◌, ◌%◌, ◌^◌, ◌==◌, sum, if◌then◌else◌, Result, Ok, Err}
use Rattle.std.specs.List.{prefix_len, suffix_len}
use Rattle.wasm_values.specs.declared.outcome.TrapKind.{TrapKind}
use Rattle.wasm_values.specs.declared.outcome.TrapKind.TheVariants as trap
use Rattle.wasm_spec.specs.Operators.{binary_digits, extend_s, wrap}

abbrev pub add : ℕ → ℕ → ℕ → ℕ
add n a b = (a + b) % 2 ^ n

abbrev pub sub : ℕ → ℕ → ℕ → ℕ
sub n a b = (a + 2 ^ n - b) % 2 ^ n

abbrev pub mul : ℕ → ℕ → ℕ → ℕ
mul n a b = a * b % 2 ^ n

abbrev pub div_u : ℕ → ℕ → Result ℕ TrapKind
div_u a b = if b == 0 then Err trap.Divide else Ok (a / b)

abbrev pub rem_u : ℕ → ℕ → Result ℕ TrapKind
rem_u a b = if b == 0 then Err trap.Divide else Ok (a % b)

abbrev pub clz : ℕ → ℕ → ℕ
clz n i = suffix_len (λ d. d == 0) (binary_digits n i)

abbrev pub ctz : ℕ → ℕ → ℕ
ctz n i = prefix_len (λ d. d == 0) (binary_digits n i)

abbrev pub popcnt : ℕ → ℕ → ℕ
popcnt n i = sum (binary_digits n i)

-- the lowest m bits, by their sign
abbrev pub extend_low : ℕ → ℕ → ℕ → ℕ
extend_low m n i = extend_s m n (wrap m i)
