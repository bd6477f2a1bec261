-- Types in the binary format. Source: WebAssembly Core Specification 1.0, section 5.3.
use Rattle.std.specs.Prelude.{◌≡◌, ℕ, List, ◌∷◌, Option, Some, None, Bool, true, false}
use Rattle.wasm_types.specs.declared.types.ValType.{ValType}
use Rattle.wasm_types.specs.declared.types.ValType.TheVariants.{I32, I64, F32, F64}
use Rattle.wasm_types.specs.declared.types.FuncType.{FuncType}
use Rattle.wasm_types.specs.declared.types.Limits.{Limits}
use Rattle.wasm_types.specs.declared.types.GlobalType.{GlobalType}
use Rattle.wasm_spec.specs.Numbers.{TakesUnsigned, Behind, TakesVec}

-- section 5.3.1
abbrev pub value_type_byte : ValType → ℕ
value_type_byte I32 = 0x7F
value_type_byte I64 = 0x7E
value_type_byte F32 = 0x7D
value_type_byte F64 = 0x7C

abbrev pub TakesValType : ValType → List ℕ → List ℕ → Type 0
TakesValType t bytes rest = bytes ≡ value_type_byte t ∷ rest

-- section 5.3.2
abbrev pub block_type_byte : Option ValType → ℕ
block_type_byte None = 0x40
block_type_byte (Some t) = value_type_byte t

abbrev pub TakesBlockType : Option ValType → List ℕ → List ℕ → Type 0
TakesBlockType t bytes rest = bytes ≡ block_type_byte t ∷ rest

-- section 5.3.3
pub record TakesFuncType (t : FuncType) (bytes rest : List ℕ) : Type 0 where
  pub after : List ℕ
  pub mid : List ℕ
  pub tag : bytes ≡ 0x60 ∷ after
  pub params : TakesVec TakesValType t.params after mid
  pub results : TakesVec TakesValType t.results mid rest

-- sections 5.3.4 and 5.3.5: limits, which are a memory's type
abbrev pub TakesRange : ℕ → Option ℕ → List ℕ → List ℕ → Type 0
TakesRange low None bytes rest = Behind 0 (λ after. TakesUnsigned 32 low after rest) bytes
TakesRange low (Some high) bytes rest = Behind 1 (λ after. (mid : List ℕ) × TakesUnsigned 32 low after mid × TakesUnsigned 32 high mid rest) bytes

abbrev pub TakesLimits : Limits → List ℕ → List ℕ → Type 0
TakesLimits l bytes rest = TakesRange l.min l.max bytes rest

-- section 5.3.6
abbrev pub TakesTableType : Limits → List ℕ → List ℕ → Type 0
TakesTableType l bytes rest = Behind 0x70 (λ after. TakesLimits l after rest) bytes

-- section 5.3.7
abbrev pub mutability_byte : Bool → ℕ
mutability_byte false = 0
mutability_byte true = 1

abbrev pub TakesGlobalType : GlobalType → List ℕ → List ℕ → Type 0
TakesGlobalType g bytes rest = bytes ≡ value_type_byte g.value ∷ mutability_byte g.mutable ∷ rest
