-- Instructions in the binary format, by profile. Source: WebAssembly Core Specification 1.0, section 5.4; for what profile 2
-- adds, version 2.0, section 5.4.
use Rattle.std.specs.Prelude.{◌≡◌, ℕ, ◌≤◌, ◌⊎◌, ◌==◌, List, [], ◌∷◌, ◌++◌, Option, Some, drop, find, length, map, replicate, ℤ}
use Rattle.std.specs.Option.{option_map_or}
use Rattle.std.specs.List.{enumerate_from}
use Rattle.std.specs.Int.{cast_unsigned, w32, w64}
use Rattle.wasm_values.specs.declared.outcome.Val.TheVariants as val
use Rattle.wasm_types.specs.declared.instr.Instr.{Instr}
use Rattle.wasm_types.specs.declared.instr.Instr.TheVariants as instr
use Rattle.wasm_types.specs.declared.instr.MemArg.{MemArg}
use Rattle.wasm_types.specs.declared.instr.Width.{Width}
use Rattle.wasm_types.specs.declared.instr.Width.TheVariants.{W32, W64}
use Rattle.wasm_types.specs.declared.instr.Sign.TheVariants.{Signed, Unsigned}
use Rattle.wasm_types.specs.declared.instr.PackSize.{PackSize}
use Rattle.wasm_types.specs.declared.instr.PackSize.TheVariants.{Pack8, Pack16, Pack32}
use Rattle.wasm_types.specs.declared.instr.UnaryOp.TheVariants.{Clz, Ctz, Popcnt, ExtendS}
use Rattle.wasm_types.specs.declared.instr.BinaryOp.TheVariants as binary
use Rattle.wasm_types.specs.declared.instr.CompareOp.TheVariants as compare
use Rattle.wasm_values.specs.declared.profile.Profile.{Profile}
use Rattle.wasm_values.specs.declared.profile.Profile.TheVariants.{One}
use Rattle.wasm_types.specs.Tree.{Code, End, Plain, Block, Loop, If, Call, CallIndirect}
use Rattle.wasm_spec.specs.Numbers.{TakesUnsigned, TakesSigned, TakesVec}
use Rattle.wasm_spec.specs.TypeGrammar.{TakesBlockType}

-- What an opcode stands for: a plain instruction, with what follows the opcode. An opcode of none of these belongs to
-- a block, a call, or no instruction.
pub data Shape : Type 0 where
  Alone : (i : Instr) → Shape
  WithIndex : (make : ℕ → Instr) → Shape
  WithLabels : Shape
  WithAddress : (make : MemArg → Instr) → Shape
  WithZero : (i : Instr) → Shape
  WithI32 : Shape
  WithI64 : Shape
  WithBytes : (n : ℕ) (i : Instr) → Shape
  Prefixed : Shape
  NotPlain : Shape

-- section 5.4.4: an access to each type of numbers, and to part of a number by its sign and without one
abbrev pub whole_accesses : (Width → MemArg → Instr) → List Shape
whole_accesses make = WithAddress (make W32) ∷ WithAddress (make W64) ∷ replicate 2 (WithAddress (λ m. instr.Float))

abbrev pub narrow_loads : Width → PackSize → List Shape
narrow_loads w p = WithAddress (λ m. instr.LoadPacked w p Signed m) ∷ WithAddress (λ m. instr.LoadPacked w p Unsigned m) ∷ []

abbrev pub narrow_stores : Width → List PackSize → List Shape
narrow_stores w sizes = map (λ p. WithAddress (λ m. instr.StorePacked w p m)) sizes

-- section 5.4.5: eqz and the comparisons of a width, which are eleven
abbrev pub comparisons : Width → List Shape
comparisons w = Alone (instr.Eqz w) ∷ map (λ op. Alone (instr.Compare w op))
    (compare.Eq ∷ compare.Ne ∷ compare.LtS ∷ compare.LtU ∷ compare.GtS ∷ compare.GtU ∷ compare.LeS ∷ compare.LeU ∷ compare.GeS ∷ compare.GeU ∷ [])

-- section 5.4.5: the operators of a width, which are eighteen
abbrev pub operators : Width → List Shape
operators w = map (λ op. Alone (instr.Unary w op)) (Clz ∷ Ctz ∷ Popcnt ∷ []) ++ map (λ op. Alone (instr.Binary w op))
    (binary.Add ∷ binary.Sub ∷ binary.Mul ∷ binary.DivS ∷ binary.DivU ∷ binary.RemS ∷ binary.RemU
    ∷ binary.And ∷ binary.Or ∷ binary.Xor ∷ binary.Shl ∷ binary.ShrS ∷ binary.ShrU ∷ binary.Rotl ∷ binary.Rotr ∷ [])

-- so many instructions on floats
abbrev pub floats : ℕ → List Shape
floats n = replicate n (Alone instr.Float)

-- the opcodes of version 1.0, each run of them by its first: sections 5.4.1 to 5.4.4, and 5.4.5
abbrev pub first_opcodes : List (ℕ × Shape)
first_opcodes =
    enumerate_from 0x00 (Alone instr.Unreachable ∷ Alone instr.Nop ∷ [])
    ++ enumerate_from 0x0C (WithIndex (λ l. instr.Br l) ∷ WithIndex (λ l. instr.BrIf l) ∷ WithLabels ∷ Alone instr.Return ∷ [])
    ++ enumerate_from 0x1A (Alone instr.Drop ∷ Alone instr.Select ∷ [])
    ++ enumerate_from 0x20 (WithIndex (λ x. instr.LocalGet x) ∷ WithIndex (λ x. instr.LocalSet x) ∷ WithIndex (λ x. instr.LocalTee x) ∷ [])
    ++ enumerate_from 0x23 (WithIndex (λ x. instr.GlobalGet x) ∷ WithIndex (λ x. instr.GlobalSet x) ∷ [])
    ++ enumerate_from 0x28 (whole_accesses (λ w m. instr.Load w m))
    ++ enumerate_from 0x2C (narrow_loads W32 Pack8 ++ narrow_loads W32 Pack16)
    ++ enumerate_from 0x30 (narrow_loads W64 Pack8 ++ narrow_loads W64 Pack16 ++ narrow_loads W64 Pack32)
    ++ enumerate_from 0x36 (whole_accesses (λ w m. instr.Store w m))
    ++ enumerate_from 0x3A (narrow_stores W32 (Pack8 ∷ Pack16 ∷ []) ++ narrow_stores W64 (Pack8 ∷ Pack16 ∷ Pack32 ∷ []))
    ++ enumerate_from 0x3F (WithZero instr.MemorySize ∷ WithZero instr.MemoryGrow ∷ [])

abbrev pub numeric : List (ℕ × Shape)
numeric =
    enumerate_from 0x41 (WithI32 ∷ WithI64 ∷ WithBytes 4 instr.Float ∷ WithBytes 8 instr.Float ∷ [])
    ++ (0xA7, Alone instr.Wrap) ∷ enumerate_from 0xAC (Alone (instr.Extend Signed) ∷ Alone (instr.Extend Unsigned) ∷ [])
    ++ enumerate_from 0x45 (comparisons W32)
    ++ enumerate_from 0x50 (comparisons W64)
    ++ enumerate_from 0x5B (floats 12)
    ++ enumerate_from 0x67 (operators W32)
    ++ enumerate_from 0x79 (operators W64)
    ++ enumerate_from 0x8B (floats 28)
    ++ enumerate_from 0xA8 (floats 4)
    ++ enumerate_from 0xAE (floats 18)

-- what profile 2 adds: the five operators that extend the lowest bits by their sign, and the prefix
abbrev pub extensions : List Shape
extensions = map (λ p. Alone (instr.Unary W32 (ExtendS p))) (Pack8 ∷ Pack16 ∷ []) ++ map (λ p. Alone (instr.Unary W64 (ExtendS p))) (Pack8 ∷ Pack16 ∷ Pack32 ∷ [])

abbrev pub added : Profile → List (ℕ × Shape)
added One = []
added _ = enumerate_from 0xC0 extensions ++ (0xFC, Prefixed) ∷ []

-- the opcodes of plain instructions
abbrev pub opcodes : Profile → List (ℕ × Shape)
opcodes profile = first_opcodes ++ numeric ++ added profile

-- what an opcode stands for
unfoldable pub shape : Profile → ℕ → Shape
shape profile opcode = option_map_or (λ row. row.1) (find (λ row. row.0 == opcode) (opcodes profile)) NotPlain

-- the numbers behind the prefix: each has an instruction, and how many zero bytes follow it
pub record PrefixedRow : Type 0 where
  pub number : ℕ
  pub instr : Instr
  pub zeros : ℕ

abbrev pub prefixed_row : ℕ → Option PrefixedRow
prefixed_row n = find (λ row. row.number == n)
    (record { number = 10; instr = instr.MemoryCopy; zeros = 2 } ∷ record { number = 11; instr = instr.MemoryFill; zeros = 1 } ∷ [])

-- what follows the prefix: a number of a row, and its zero bytes
pub record TakesPrefixed (i : Instr) (bytes rest : List ℕ) : Type 0 where
  pub number : ℕ
  pub mid : List ℕ
  pub row : PrefixedRow
  pub spelled : TakesUnsigned 32 number bytes mid
  pub found : prefixed_row number ≡ Some row
  pub is : i ≡ row.instr
  pub zeros : mid ≡ replicate row.zeros 0 ++ rest

-- what follows the opcode of a shape
abbrev pub TakesShape : Shape → Instr → List ℕ → List ℕ → Type 0
TakesShape (Alone j) i bytes rest = (i ≡ j) × (rest ≡ bytes)
TakesShape (WithIndex make) i bytes rest = (x : ℕ) × (i ≡ make x) × TakesUnsigned 32 x bytes rest
TakesShape WithLabels i bytes rest =
    (labels : List ℕ) × (l : ℕ) × (mid : List ℕ) × (i ≡ instr.BrTable labels l) × TakesVec (TakesUnsigned 32) labels bytes mid × TakesUnsigned 32 l mid rest
TakesShape (WithAddress make) i bytes rest =
    (m : MemArg) × (mid : List ℕ) × (i ≡ make m) × TakesUnsigned 32 m.align bytes mid × TakesUnsigned 32 m.offset mid rest
TakesShape (WithZero j) i bytes rest = (i ≡ j) × (bytes ≡ 0 ∷ rest)
TakesShape WithI32 i bytes rest = (z : ℤ) × (i ≡ instr.Const (val.I32 (cast_unsigned w32 z))) × TakesSigned 32 z bytes rest
TakesShape WithI64 i bytes rest = (z : ℤ) × (i ≡ instr.Const (val.I64 (cast_unsigned w64 z))) × TakesSigned 64 z bytes rest
TakesShape (WithBytes n j) i bytes rest = (i ≡ j) × (n ≤ length bytes) × (rest ≡ drop n bytes)
TakesShape Prefixed i bytes rest = TakesPrefixed i bytes rest
TakesShape NotPlain i bytes rest = ⊥

-- a plain instruction: its opcode, and what follows that
pub record TakesInstr (profile : Profile) (i : Instr) (bytes rest : List ℕ) : Type 0 where
  pub opcode : ℕ
  pub after : List ℕ
  pub leads : bytes ≡ opcode ∷ after
  pub follows : TakesShape (shape profile opcode) i after rest

-- what closes a sequence of instructions: an end, or the else of an if
pub data Closer : Type 0 where
  ByEnd : Closer
  ByElse : Closer

abbrev pub closing_byte : Closer → ℕ
closing_byte ByEnd = 0x0B
closing_byte ByElse = 0x05

module _ (profile : Profile) where
  -- a sequence of instructions, and what closes it
  abbrev pub TakesCode : Closer → Code → List ℕ → List ℕ → Type 0
  TakesCode k End bytes rest = bytes ≡ closing_byte k ∷ rest
  TakesCode k (Plain i more) bytes rest = (mid : List ℕ) × TakesInstr profile i bytes mid × TakesCode k more mid rest
  TakesCode k (Block t body more) bytes rest =
      (after : List ℕ) × (bytes ≡ 0x02 ∷ after) × (inner : List ℕ) × TakesBlockType t after inner
      × (mid : List ℕ) × TakesCode ByEnd body inner mid × TakesCode k more mid rest
  TakesCode k (Loop t body more) bytes rest =
      (after : List ℕ) × (bytes ≡ 0x03 ∷ after) × (inner : List ℕ) × TakesBlockType t after inner
      × (mid : List ℕ) × TakesCode ByEnd body inner mid × TakesCode k more mid rest
  TakesCode k (If t first second more) bytes rest =
      (after : List ℕ) × (bytes ≡ 0x04 ∷ after) × (inner : List ℕ) × TakesBlockType t after inner
      × (mid : List ℕ)
      × ((TakesCode ByEnd first inner mid × (second ≡ End))
      ⊎ ((middle : List ℕ) × TakesCode ByElse first inner middle × TakesCode ByEnd second middle mid))
      × TakesCode k more mid rest
  TakesCode k (Call x more) bytes rest =
      (after : List ℕ) × (bytes ≡ 0x10 ∷ after) × (mid : List ℕ) × TakesUnsigned 32 x after mid × TakesCode k more mid rest
  TakesCode k (CallIndirect x more) bytes rest =
      (after : List ℕ) × (bytes ≡ 0x11 ∷ after) × (mid : List ℕ) × TakesUnsigned 32 x after (0 ∷ mid) × TakesCode k more mid rest

  -- an expression (section 5.4.6)
  abbrev pub TakesExpr : Code → List ℕ → List ℕ → Type 0
  TakesExpr c bytes rest = TakesCode ByEnd c bytes rest
