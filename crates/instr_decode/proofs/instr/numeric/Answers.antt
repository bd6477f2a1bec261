use Rattle.std.proofs.Common.{refl, ◌∙◌, arith}
use Rattle.wasm_values.specs.declared.profile.Profile.TheVariants.{One}
use Rattle.wasm_types.specs.declared.instr.Width.TheVariants.{W32, W64}
use Rattle.wasm_spec.specs.InstrGrammar.{shape, comparisons, operators}
use Rattle.instr_decode.proofs.Opcodes.{known, run, run-same}
use Rattle.instr_decode.proofs.instr.numeric.Goals as goal

pub returns-in-69-to-79 : goal.returns-in-69-to-79
unfolding shape
returns-in-69-to-79 c = run One 0x45 11 (comparisons W32) refl c.args.opcode (omega arith) (omega arith) ∙ c.comparison.ensures

pub returns-in-80-to-90 : goal.returns-in-80-to-90
unfolding shape
returns-in-80-to-90 c = run One 0x50 11 (comparisons W64) refl c.args.opcode (omega arith) (omega arith) ∙ c.comparison-in-80-to-90.ensures

pub returns-in-103-to-120 : goal.returns-in-103-to-120
unfolding shape
returns-in-103-to-120 c = run One 0x67 18 (operators W32) refl c.args.opcode (omega arith) (omega arith) ∙ c.operator.ensures

pub returns-in-121-to-138 : goal.returns-in-121-to-138
unfolding shape
returns-in-121-to-138 c = run One 0x79 18 (operators W64) refl c.args.opcode (omega arith) (omega arith) ∙ c.operator-in-121-to-138.ensures

pub returns-in-91-to-102 : goal.returns-in-91-to-102
unfolding shape
returns-in-91-to-102 c = run-same One 0x5B 12 _ refl c.args.opcode (omega arith) (omega arith)

pub returns-in-139-to-166 : goal.returns-in-139-to-166
unfolding shape
returns-in-139-to-166 c = run-same One 0x8B 28 _ refl c.args.opcode (omega arith) (omega arith)

pub returns-in-168-to-171 : goal.returns-in-168-to-171
unfolding shape
returns-in-168-to-171 c = run-same One 0xA8 4 _ refl c.args.opcode (omega arith) (omega arith)

pub returns-in-174-to-191 : goal.returns-in-174-to-191
unfolding shape
returns-in-174-to-191 c = run-same One 0xAE 18 _ refl c.args.opcode (omega arith) (omega arith)

pub returns-in-65 : goal.returns-in-65
unfolding shape
returns-in-65 c = known c.args.opcode 0x41 (omega arith)

pub returns-in-66 : goal.returns-in-66
unfolding shape
returns-in-66 c = known c.args.opcode 0x42 (omega arith)

pub returns-in-67 : goal.returns-in-67
unfolding shape
returns-in-67 c = known c.args.opcode 0x43 (omega arith)

pub returns-in-167 : goal.returns-in-167
unfolding shape
returns-in-167 c = known c.args.opcode 0xA7 (omega arith)

pub returns-in-172 : goal.returns-in-172
unfolding shape
returns-in-172 c = known c.args.opcode 0xAC (omega arith)

pub returns-in-173 : goal.returns-in-173
unfolding shape
returns-in-173 c = known c.args.opcode 0xAD (omega arith)
