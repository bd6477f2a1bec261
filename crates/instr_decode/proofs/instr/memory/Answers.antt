use Rattle.std.proofs.Common.{arith}
use Rattle.wasm_spec.specs.InstrGrammar.{shape}
use Rattle.instr_decode.proofs.Opcodes.{known}
use Rattle.instr_decode.proofs.instr.memory.Goals as goal

pub returns-in-40 : goal.returns-in-40
unfolding shape
returns-in-40 c = known c.args.opcode 0x28 (omega arith)

pub returns-in-41 : goal.returns-in-41
unfolding shape
returns-in-41 c = known c.args.opcode 0x29 (omega arith)

pub returns-in-42 : goal.returns-in-42
unfolding shape
returns-in-42 c = known c.args.opcode 0x2A (omega arith)

pub returns-in-43 : goal.returns-in-43
unfolding shape
returns-in-43 c = known c.args.opcode 0x2B (omega arith)

pub returns-in-44 : goal.returns-in-44
unfolding shape
returns-in-44 c = known c.args.opcode 0x2C (omega arith)

pub returns-in-45 : goal.returns-in-45
unfolding shape
returns-in-45 c = known c.args.opcode 0x2D (omega arith)

pub returns-in-46 : goal.returns-in-46
unfolding shape
returns-in-46 c = known c.args.opcode 0x2E (omega arith)

pub returns-in-47 : goal.returns-in-47
unfolding shape
returns-in-47 c = known c.args.opcode 0x2F (omega arith)

pub returns-in-48 : goal.returns-in-48
unfolding shape
returns-in-48 c = known c.args.opcode 0x30 (omega arith)

pub returns-in-49 : goal.returns-in-49
unfolding shape
returns-in-49 c = known c.args.opcode 0x31 (omega arith)

pub returns-in-50 : goal.returns-in-50
unfolding shape
returns-in-50 c = known c.args.opcode 0x32 (omega arith)

pub returns-in-51 : goal.returns-in-51
unfolding shape
returns-in-51 c = known c.args.opcode 0x33 (omega arith)

pub returns-in-52 : goal.returns-in-52
unfolding shape
returns-in-52 c = known c.args.opcode 0x34 (omega arith)

pub returns-in-53 : goal.returns-in-53
unfolding shape
returns-in-53 c = known c.args.opcode 0x35 (omega arith)

pub returns-in-54 : goal.returns-in-54
unfolding shape
returns-in-54 c = known c.args.opcode 0x36 (omega arith)

pub returns-in-55 : goal.returns-in-55
unfolding shape
returns-in-55 c = known c.args.opcode 0x37 (omega arith)

pub returns-in-56 : goal.returns-in-56
unfolding shape
returns-in-56 c = known c.args.opcode 0x38 (omega arith)

pub returns-in-57 : goal.returns-in-57
unfolding shape
returns-in-57 c = known c.args.opcode 0x39 (omega arith)

pub returns-in-58 : goal.returns-in-58
unfolding shape
returns-in-58 c = known c.args.opcode 0x3A (omega arith)

pub returns-in-59 : goal.returns-in-59
unfolding shape
returns-in-59 c = known c.args.opcode 0x3B (omega arith)

pub returns-in-60 : goal.returns-in-60
unfolding shape
returns-in-60 c = known c.args.opcode 0x3C (omega arith)

pub returns-in-61 : goal.returns-in-61
unfolding shape
returns-in-61 c = known c.args.opcode 0x3D (omega arith)

pub returns-in-62 : goal.returns-in-62
unfolding shape
returns-in-62 c = known c.args.opcode 0x3E (omega arith)

pub returns-in-63 : goal.returns-in-63
unfolding shape
returns-in-63 c = known c.args.opcode 0x3F (omega arith)

pub returns-in-64 : goal.returns-in-64
unfolding shape
returns-in-64 c = known c.args.opcode 0x40 (omega arith)
