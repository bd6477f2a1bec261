-- The integer operators of the WebAssembly Core Specification 1.0, sections 4.3.1, 4.3.2 and 4.3.4.
-- A value of N bits is a number below 2 ^ N, and n stands for N, which is 32 or 64.
use Rattle.std.specs.Prelude.{ℕ, zero, suc, ◌+◌, ◌-◌, ◌*◌, ◌/◌, ◌%◌, ◌^◌, ◌==◌, List, [], ◌∷◌, sum, Bool, true, false, not, ◌&&◌, if◌then◌else◌, Result, Ok, Err, nat_lt, nat_le, ℤ, pos, negsuc, ◌-ℤ◌, int_lt, int_le, int_div, int_rem, bit_and, bit_or, bit_xor}
use Rattle.std.specs.Int as int
use Rattle.std.specs.Int.{int_shr, w8, w16, w32, w64}
use Rattle.std.specs.List.{prefix_len, suffix_len}
use Rattle.wasm_types.specs.declared.instr.Width.{Width}
use Rattle.wasm_types.specs.declared.instr.Width.TheVariants.{W32, W64}
use Rattle.wasm_types.specs.declared.instr.PackSize.{PackSize}
use Rattle.wasm_types.specs.declared.instr.PackSize.TheVariants.{Pack8, Pack16, Pack32}
use Rattle.wasm_types.specs.declared.instr.UnaryOp.{UnaryOp}
use Rattle.wasm_types.specs.declared.instr.UnaryOp.TheVariants as unary_op
use Rattle.wasm_types.specs.declared.instr.BinaryOp.{BinaryOp}
use Rattle.wasm_types.specs.declared.instr.BinaryOp.TheVariants as binary_op
use Rattle.wasm_types.specs.declared.instr.CompareOp.{CompareOp}
use Rattle.wasm_types.specs.declared.instr.CompareOp.TheVariants as compare_op
use Rattle.wasm_values.specs.declared.outcome.TrapKind.{TrapKind}
use Rattle.wasm_values.specs.declared.outcome.TrapKind.TheVariants as trap

abbrev pub bit_width : Width → ℕ
bit_width W32 = 32
bit_width W64 = 64

-- the width as std's words on bytes and signs take it
abbrev pub int_width : Width → int.Width
int_width W32 = w32
int_width W64 = w64

-- a narrow part of an integer, as std's words on bytes take it
abbrev pub pack_width : PackSize → int.Width
pack_width Pack8 = w8
pack_width Pack16 = w16
pack_width Pack32 = w32

abbrev pub pack_bits : PackSize → ℕ
pack_bits Pack8 = 8
pack_bits Pack16 = 16
pack_bits Pack32 = 32

-- ---- representations (section 4.3.1)

-- The n binary digits of i, the lowest first: `ibits`, read from its end.
unfoldable pub binary_digits : ℕ → ℕ → List ℕ
binary_digits zero i = []
binary_digits (suc n) i = i % 2 ∷ binary_digits n (i / 2)

-- ---- signs and truth (section 4.3.2)

-- `signed`: i below 2 ^ (n - 1), and i - 2 ^ n from there on.
abbrev pub signed : ℕ → ℕ → ℤ
signed n i = if nat_lt i (2 ^ (n - 1)) then pos i else (pos i -ℤ pos (2 ^ n))

-- Its inverse: the number that is read as j.
abbrev pub unsigned : ℕ → ℤ → ℕ
unsigned n (pos j) = j
unsigned n (negsuc j) = 2 ^ n - suc j

-- `bool`: 1 where the test holds, and else 0.
abbrev pub bool : Bool → ℕ
bool true = 1
bool false = 0

-- ---- signed division (section 4.3.2)

-- The least signed number divided by -1, whose quotient 2 ^ (n - 1) no signed number of n bits is.
abbrev pub overflows : ℕ → ℕ → ℕ → Bool
overflows n a b = (a == 2 ^ (n - 1)) && (b == 2 ^ n - 1)

-- `idiv_s`: the quotient of the signed values, towards zero.
abbrev pub div_s : ℕ → ℕ → ℕ → Result ℕ TrapKind
div_s n a b =
    if b == 0 then Err trap.Divide
    else if overflows n a b then Err trap.Overflow
    else Ok (unsigned n (int_div (signed n a) (signed n b)))

-- `irem_s`: what that quotient leaves, which has the sign of a. The least signed number by -1 leaves 0.
abbrev pub rem_s : ℕ → ℕ → ℕ → Result ℕ TrapKind
rem_s n a b = if b == 0 then Err trap.Divide else Ok (unsigned n (int_rem (signed n a) (signed n b)))

-- ---- shifts, by a count modulo n (section 4.3.2)

-- `ishl`
abbrev pub shl : ℕ → ℕ → ℕ → ℕ
shl n a b = a * 2 ^ (b % n) % 2 ^ n

-- `ishr_u`: zeros come in.
abbrev pub shr_u : ℕ → ℕ → ℕ → ℕ
shr_u n a b = a / 2 ^ (b % n)

-- `ishr_s`: copies of the sign come in, so the signed value is divided and rounded down.
abbrev pub shr_s : ℕ → ℕ → ℕ → ℕ
shr_s n a b = unsigned n (int_shr (signed n a) (b % n))

-- `irotl` and `irotr`: the digits that leave at one end come in at the other.
abbrev pub rotl : ℕ → ℕ → ℕ → ℕ
rotl n a b = let k = b % n in a * 2 ^ k % 2 ^ n + a / 2 ^ (n - k)

abbrev pub rotr : ℕ → ℕ → ℕ → ℕ
rotr n a b = let k = b % n in a / 2 ^ k + a * 2 ^ (n - k) % 2 ^ n

-- ---- conversions (section 4.3.4)

-- from m bits to n more: `extend_s` keeps the signed value, and `extend_u` the number itself
abbrev pub extend_s : ℕ → ℕ → ℕ → ℕ
extend_s m n i = unsigned n (signed m i)

-- to n bits: the lowest
abbrev pub wrap : ℕ → ℕ → ℕ
wrap n i = i % 2 ^ n

-- ---- all of them by name

-- `iclz`, `ictz` and `ipopcnt` count the zeros at the upper end, the zeros at the lower end, and the ones. `extendM_s` of a
-- later version takes the lowest m bits by their sign.
abbrev pub unary : ℕ → UnaryOp → ℕ → ℕ
unary n unary_op.Clz i = suffix_len (λ d. d == 0) (binary_digits n i)
unary n unary_op.Ctz i = prefix_len (λ d. d == 0) (binary_digits n i)
unary n unary_op.Popcnt i = sum (binary_digits n i)
unary n (unary_op.ExtendS p) i = extend_s (pack_bits p) n (wrap (pack_bits p) i)

-- `iadd`, `isub` and `imul` are modulo 2 ^ n. No quotient is defined at the divisor 0, and none is its rest.
abbrev pub binary : ℕ → BinaryOp → ℕ → ℕ → Result ℕ TrapKind
binary n binary_op.Add a b = Ok ((a + b) % 2 ^ n)
binary n binary_op.Sub a b = Ok ((a + 2 ^ n - b) % 2 ^ n)
binary n binary_op.Mul a b = Ok (a * b % 2 ^ n)
binary n binary_op.DivS a b = div_s n a b
binary n binary_op.DivU a b = if b == 0 then Err trap.Divide else Ok (a / b)
binary n binary_op.RemS a b = rem_s n a b
binary n binary_op.RemU a b = if b == 0 then Err trap.Divide else Ok (a % b)
binary n binary_op.And a b = Ok (bit_and a b)
binary n binary_op.Or a b = Ok (bit_or a b)
binary n binary_op.Xor a b = Ok (bit_xor a b)
binary n binary_op.Shl a b = Ok (shl n a b)
binary n binary_op.ShrS a b = Ok (shr_s n a b)
binary n binary_op.ShrU a b = Ok (shr_u n a b)
binary n binary_op.Rotl a b = Ok (rotl n a b)
binary n binary_op.Rotr a b = Ok (rotr n a b)

-- whether a comparison holds; the signed ones compare the signed values
abbrev pub holds : ℕ → CompareOp → ℕ → ℕ → Bool
holds n compare_op.Eq a b = a == b
holds n compare_op.Ne a b = not (a == b)
holds n compare_op.LtS a b = int_lt (signed n a) (signed n b)
holds n compare_op.LtU a b = nat_lt a b
holds n compare_op.GtS a b = int_lt (signed n b) (signed n a)
holds n compare_op.GtU a b = nat_lt b a
holds n compare_op.LeS a b = int_le (signed n a) (signed n b)
holds n compare_op.LeU a b = nat_le a b
holds n compare_op.GeS a b = int_le (signed n b) (signed n a)
holds n compare_op.GeU a b = nat_le b a

-- `ieq` to `ige_s`, and `ieqz`
abbrev pub compare : ℕ → CompareOp → ℕ → ℕ → ℕ
compare n op a b = bool (holds n op a b)

abbrev pub eqz : ℕ → ℕ
eqz i = bool (i == 0)
