-- Where memory may be wanted to read what begins some bytes: for what stands there, and not for what is only claimed.
use Rattle.std.specs.Prelude.{◌≡◌, ℕ, ◌<◌, ◌⊎◌, List, ◌∷◌}
use Rattle.wasm_values.specs.declared.profile.Profile.{Profile}
use Rattle.wasm_spec.specs.Numbers.{TakesUnsigned}
use Rattle.wasm_spec.specs.InstrGrammar.{Shape, WithLabels, shape}
use Rattle.instr_decode.specs.Tokens.{TakesToken}

-- the bytes begin with one
pub record BeginsWith {A : Type 0} (Takes : A → List ℕ → List ℕ → Type 0) (bytes : List ℕ) : Type 0 where
  pub item : A
  pub after : List ℕ
  pub spelled : Takes item bytes after

-- a vector: its count is not 0, and its first item stands behind it, or memory may be wanted to read that
pub record WantsVec {A : Type 0} (Takes : A → List ℕ → List ℕ → Type 0) (Wants : List ℕ → Type 0) (bytes : List ℕ) : Type 0 where
  pub number : ℕ
  pub mid : List ℕ
  pub count : TakesUnsigned 32 number bytes mid
  pub some : 0 < number
  pub first : BeginsWith Takes mid ⊎ Wants mid

-- what follows an opcode: labels alone take memory
abbrev pub WantsShape : Shape → List ℕ → Type 0
WantsShape WithLabels bytes = WantsVec (TakesUnsigned 32) (λ _. ⊥) bytes
WantsShape _ bytes = ⊥

-- a token: its opcode, and memory may be wanted for what follows that
pub record WantsToken (profile : Profile) (bytes : List ℕ) : Type 0 where
  pub opcode : ℕ
  pub after : List ℕ
  pub begins : bytes ≡ opcode ∷ after
  pub immediate : WantsShape (shape profile opcode) after

-- an expression: its first token stands there, or memory may be wanted to read that
abbrev pub WantsExpr : Profile → List ℕ → Type 0
WantsExpr profile bytes = BeginsWith (TakesToken profile) bytes ⊎ WantsToken profile bytes
