-- The tokens of code: what an opcode begins.
use Rattle.std.specs.Prelude.{◌≡◌, ℕ, List, ◌∷◌}
use Rattle.wasm_types.specs.declared.instr.Op.{Op}
use Rattle.wasm_types.specs.declared.instr.Op.TheVariants as op
use Rattle.wasm_values.specs.declared.profile.Profile.{Profile}
use Rattle.wasm_spec.specs.Numbers.{TakesUnsigned}
use Rattle.wasm_spec.specs.TypeGrammar.{TakesBlockType}
use Rattle.wasm_spec.specs.InstrGrammar.{TakesInstr}
use Rattle.instr_decode.specs.declared.token.BlockKind.{BlockKind}
use Rattle.instr_decode.specs.declared.token.BlockKind.TheVariants as block_kind
use Rattle.instr_decode.specs.declared.token.Token.{Token}
use Rattle.instr_decode.specs.declared.token.Token.TheVariants as token

abbrev pub TakesIndexAndZero : ℕ → List ℕ → List ℕ → Type 0
TakesIndexAndZero x bytes rest = TakesUnsigned 32 x bytes (0 ∷ rest)

-- an instruction without inner code
abbrev pub TakesLeaf : Profile → Op → List ℕ → List ℕ → Type 0
TakesLeaf profile (op.Plain i) bytes rest = TakesInstr profile i bytes rest
TakesLeaf profile (op.Call x) bytes rest = (after : List ℕ) × (bytes ≡ 0x10 ∷ after) × TakesUnsigned 32 x after rest
TakesLeaf profile (op.CallIndirect x) bytes rest = (after : List ℕ) × (bytes ≡ 0x11 ∷ after) × TakesUnsigned 32 x after (0 ∷ rest)
TakesLeaf profile _ bytes rest = ⊥

abbrev pub block_byte : BlockKind → ℕ
block_byte block_kind.Block = 0x02
block_byte block_kind.Loop = 0x03
block_byte block_kind.If = 0x04

abbrev pub TakesToken : Profile → Token → List ℕ → List ℕ → Type 0
TakesToken profile (token.Leaf o) bytes rest = TakesLeaf profile o bytes rest
TakesToken profile (token.Open o t) bytes rest = (after : List ℕ) × (bytes ≡ block_byte o ∷ after) × TakesBlockType t after rest
TakesToken profile token.Else bytes rest = bytes ≡ 0x05 ∷ rest
TakesToken profile token.End bytes rest = bytes ≡ 0x0B ∷ rest

abbrev pub IsLeaf : Op → Type 0
IsLeaf (op.Plain i) = Unit {0}
IsLeaf (op.Call x) = Unit {0}
IsLeaf (op.CallIndirect x) = Unit {0}
IsLeaf _ = ⊥
