-- What an opcode makes of what follows it, as the grammar has it.
use Rattle.std.specs.Prelude.{◌≡◌, ◌++◌, replicate, ℕ, List}
use Rattle.wasm_types.specs.declared.instr.Instr.{Instr}
use Rattle.wasm_types.specs.declared.instr.Instr.TheVariants as instr
use Rattle.wasm_types.specs.declared.instr.MemArg.{MemArg}
use Rattle.instr_decode.specs.declared.instr.IndexOp.{IndexOp}
use Rattle.instr_decode.specs.declared.instr.IndexOp.TheVariants as index
use Rattle.instr_decode.specs.declared.instr.AddressOp.{AddressOp}
use Rattle.instr_decode.specs.declared.instr.AddressOp.TheVariants as address
use Rattle.instr_decode.specs.declared.instr.Form.{Form}
use Rattle.instr_decode.specs.declared.instr.Form.TheVariants as form
use Rattle.wasm_spec.specs.Numbers.{TakesUnsigned}
use Rattle.wasm_spec.specs.InstrGrammar.{Shape, Alone, WithIndex, WithLabels, WithAddress, WithZero, WithI32, WithI64, WithBytes}

abbrev pub made_with_index : IndexOp → ℕ → Instr
made_with_index index.Br x = instr.Br x
made_with_index index.BrIf x = instr.BrIf x
made_with_index index.LocalGet x = instr.LocalGet x
made_with_index index.LocalSet x = instr.LocalSet x
made_with_index index.LocalTee x = instr.LocalTee x
made_with_index index.GlobalGet x = instr.GlobalGet x
made_with_index index.GlobalSet x = instr.GlobalSet x

abbrev pub made_with_address : AddressOp → MemArg → Instr
made_with_address (address.Load w) m = instr.Load w m
made_with_address (address.LoadPacked w size sign) m = instr.LoadPacked w size sign m
made_with_address (address.Store w) m = instr.Store w m
made_with_address (address.StorePacked w size) m = instr.StorePacked w size m
made_with_address address.Float m = instr.Float

-- the shape of a form; what so many bytes follow is an instruction on floats
abbrev pub shape_of : Form → Shape
shape_of (form.Alone i) = Alone i
shape_of (form.Index op) = WithIndex (λ x. made_with_index op x)
shape_of form.Labels = WithLabels
shape_of (form.Address op) = WithAddress (λ m. made_with_address op m)
shape_of (form.Zero i) = WithZero i
shape_of form.I32 = WithI32
shape_of form.I64 = WithI64
shape_of (form.Bytes n) = WithBytes n instr.Float

-- a place in memory: its alignment, and then its offset
abbrev pub TakesAddress : MemArg → List ℕ → List ℕ → Type 0
TakesAddress m bytes rest = (mid : List ℕ) × TakesUnsigned 32 m.align bytes mid × TakesUnsigned 32 m.offset mid rest

-- so many zero bytes
abbrev pub TakesZeros : ℕ → Unit {0} → List ℕ → List ℕ → Type 0
TakesZeros count done bytes rest = bytes ≡ replicate count 0 ++ rest
