-- The part of memory that an instruction or a function of the host writes, of which just the blocks are marked.
use Rattle.std.specs.Prelude.{ℕ, ◌+◌, List, ◌∷◌, Bool, Option, is_none, length, if◌then◌else◌}
use Rattle.std.specs.Int.{byte_len}
use Rattle.wasm_values.specs.declared.outcome.TrapKind.{TrapKind}
use Rattle.wasm_values.specs.declared.outcome.Val.{Val}
use Rattle.wasm_values.specs.declared.outcome.Val.TheVariants as val
use Rattle.wasm_types.specs.declared.instr.Instr.{Instr}
use Rattle.wasm_types.specs.declared.instr.Instr.TheVariants as instr
use Rattle.wasm_types.specs.declared.host.HostFunction.{HostFunction}
use Rattle.wasm_types.specs.declared.host.HostFunction.TheVariants as host
use Rattle.wasm_spec.specs.Execution.{part}
use Rattle.wasm_spec.specs.Operators.{int_width, pack_width}
use Rattle.linear_memory.specs.declared.memory.Memory.{Memory}
use Rattle.linear_memory.specs.Marks.{MarksPart}
use Rattle.machine_steps.specs.declared.machine.Machine.{Machine}
use Rattle.machine_steps.specs.PlainSteps.{CanExecute}
use Rattle.machine_steps.specs.HostSteps.{CanCallHost}

-- what an instruction writes with these operands, unless it traps: from which address on, and how many bytes
abbrev pub part_written : Instr → List Val → ℕ × ℕ
part_written (instr.Store w a) (v ∷ val.I32 base ∷ vs) = (base + a.offset, byte_len (int_width w))
part_written (instr.StorePacked w p a) (v ∷ val.I32 base ∷ vs) = (base + a.offset, byte_len (pack_width p))
part_written instr.MemoryCopy (val.I32 n ∷ from ∷ val.I32 to ∷ vs) = (to, n)
part_written instr.MemoryFill (val.I32 n ∷ value ∷ val.I32 to ∷ vs) = (to, n)
part_written i vs = (0, 0)

-- and a function of the host: a read writes what the request has there
abbrev pub part_read : List ℕ → HostFunction → List Val → ℕ × ℕ
part_read request host.Read (val.I32 n ∷ val.I32 from ∷ val.I32 to ∷ vs) = (to, length (part request from n))
part_read request h vs = (0, 0)

-- just the blocks of the part are marked, or none
abbrev pub MarksIf : Bool → (part : ℕ × ℕ) → (old new : Memory) → Type 0
MarksIf done part old new = MarksPart old new part.0 (if done then part.1 else 0)

-- what an instruction marks on this machine
abbrev pub MarksWritten : Instr → Machine → Option TrapKind → (old new : Memory) → Type 0
MarksWritten i machine trap old new = (can : CanExecute i machine) → MarksIf (is_none trap) (part_written i can.configuration.operands) old new

-- and what a function of the host marks
abbrev pub MarksRead : List ℕ → HostFunction → Machine → Option TrapKind → (old new : Memory) → Type 0
MarksRead request h machine trap old new =
    (can : CanCallHost request h machine) → MarksIf (is_none trap) (part_read request h can.configuration.operands) old new
