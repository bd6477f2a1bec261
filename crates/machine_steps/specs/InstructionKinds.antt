-- What plain instructions of one kind have in common: the widths of what they take and give, and what they make of it.
use Rattle.std.specs.Prelude.{ℕ, Bool, true, false, Result, Ok}
use Rattle.std.specs.Int as int
use Rattle.std.specs.Int.{w32}
use Rattle.wasm_values.specs.declared.outcome.TrapKind.{TrapKind}
use Rattle.wasm_types.specs.declared.instr.Width.{Width}
use Rattle.wasm_types.specs.declared.instr.Width.TheVariants.{W32, W64}
use Rattle.wasm_types.specs.declared.instr.Instr.{Instr}
use Rattle.wasm_types.specs.declared.instr.Instr.TheVariants as instr
use Rattle.wasm_spec.specs.Operators.{bit_width, int_width, unary, binary, compare, eqz, wrap, pack_bits, pack_width}
use Rattle.wasm_spec.specs.Execution.{extended}

-- instructions that leave their sequence, or may
abbrev pub jumps : Instr → Bool
jumps (instr.Br l) = true
jumps (instr.BrIf l) = true
jumps (instr.BrTable ls l) = true
jumps instr.Return = true
jumps _ = false

-- the width of the number that is taken, or of each of two
abbrev pub takes_width : Instr → Width
takes_width (instr.Eqz w) = w
takes_width (instr.Compare w o) = w
takes_width (instr.Unary w o) = w
takes_width (instr.Binary w o) = w
takes_width (instr.Store w a) = w
takes_width (instr.StorePacked w p a) = w
takes_width instr.Wrap = W64
takes_width _ = W32

-- the width of the number that is given
abbrev pub gives_width : Instr → Width
gives_width (instr.Unary w o) = w
gives_width (instr.Binary w o) = w
gives_width (instr.Extend s) = W64
gives_width (instr.Load w a) = w
gives_width (instr.LoadPacked w p s a) = w
gives_width _ = W32

-- ---- a number of one

abbrev pub IsOfOne : Instr → Type 0
IsOfOne (instr.Eqz w) = Unit {0}
IsOfOne (instr.Unary w o) = Unit {0}
IsOfOne instr.Wrap = Unit {0}
IsOfOne (instr.Extend s) = Unit {0}
IsOfOne _ = ⊥

abbrev pub of_one : Instr → ℕ → ℕ
of_one (instr.Eqz w) a = eqz a
of_one (instr.Unary w o) a = unary (bit_width w) o a
of_one instr.Wrap a = wrap 32 a
of_one (instr.Extend s) a = extended 32 64 s a
of_one _ a = a

-- ---- a number of two

abbrev pub IsOfTwo : Instr → Type 0
IsOfTwo (instr.Compare w o) = Unit {0}
IsOfTwo (instr.Binary w o) = Unit {0}
IsOfTwo _ = ⊥

abbrev pub of_two : Instr → ℕ → ℕ → Result ℕ TrapKind
of_two (instr.Compare w o) a b = Ok (compare (bit_width w) o a b)
of_two (instr.Binary w o) a b = binary (bit_width w) o a b
of_two _ a b = Ok a

-- ---- accesses to memory

abbrev pub IsLoad : Instr → Type 0
IsLoad (instr.Load w a) = Unit {0}
IsLoad (instr.LoadPacked w p s a) = Unit {0}
IsLoad _ = ⊥

abbrev pub IsStoring : Instr → Type 0
IsStoring (instr.Store w a) = Unit {0}
IsStoring (instr.StorePacked w p a) = Unit {0}
IsStoring _ = ⊥

abbrev pub address_offset : Instr → ℕ
address_offset (instr.Load w a) = a.offset
address_offset (instr.LoadPacked w p s a) = a.offset
address_offset (instr.Store w a) = a.offset
address_offset (instr.StorePacked w p a) = a.offset
address_offset _ = 0

-- how much of memory is accessed
abbrev pub access_width : Instr → int.Width
access_width (instr.Load w a) = int_width w
access_width (instr.LoadPacked w p s a) = pack_width p
access_width (instr.Store w a) = int_width w
access_width (instr.StorePacked w p a) = pack_width p
access_width _ = w32

-- what a number that is loaded becomes, and what is stored of one
abbrev pub loaded_as : Instr → ℕ → ℕ
loaded_as (instr.LoadPacked w p s a) n = extended (pack_bits p) (bit_width w) s n
loaded_as _ n = n

abbrev pub stored_as : Instr → ℕ → ℕ
stored_as (instr.StorePacked w p a) n = wrap (pack_bits p) n
stored_as _ n = n
