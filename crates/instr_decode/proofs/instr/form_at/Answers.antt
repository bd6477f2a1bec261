use Rattle.std.proofs.Common.{List, ℕ, [], ◌∷◌, refl, arith}
use Rattle.std.proofs.lemmas.Bool.Decides.{nat_tests}
use Rattle.wasm_spec.specs.InstrGrammar.{shape}
use Rattle.instr_decode.proofs.Opcodes.{known, only}
use Rattle.instr_decode.proofs.instr.form_at.Goals as goal
use Rattle.instr_decode.proofs.instr.form_at.Goals.{in_default-via-then-opcode-lt40, in_default-via-else-opcode-lt40+else-opcode-lt65+else-opcode-lt192}

abbrev plain : List (ℕ × ℕ)
plain = (0x00, 0x01) ∷ (0x0C, 0x0F) ∷ (0x1A, 0x1B) ∷ (0x20, 0x24) ∷ (0x28, 0xBF) ∷ []

pub returns-in_default : goal.returns-in_default
returns-in_default c = elim c.in_default.branch [
  | in_default-via-then-opcode-lt40 w ↦ only plain refl c.args.opcode (grind (arith, nat_tests))
  | in_default-via-else-opcode-lt40+else-opcode-lt65+else-opcode-lt192 w ↦ only plain refl c.args.opcode (grind (arith, nat_tests))
]

pub returns-in-0 : goal.returns-in-0
unfolding shape
returns-in-0 c = known c.args.opcode 0x00 (omega arith)

pub returns-in-1 : goal.returns-in-1
unfolding shape
returns-in-1 c = known c.args.opcode 0x01 (omega arith)

pub returns-in-12 : goal.returns-in-12
unfolding shape
returns-in-12 c = known c.args.opcode 0x0C (omega arith)

pub returns-in-13 : goal.returns-in-13
unfolding shape
returns-in-13 c = known c.args.opcode 0x0D (omega arith)

pub returns-in-14 : goal.returns-in-14
unfolding shape
returns-in-14 c = known c.args.opcode 0x0E (omega arith)

pub returns-in-15 : goal.returns-in-15
unfolding shape
returns-in-15 c = known c.args.opcode 0x0F (omega arith)

pub returns-in-26 : goal.returns-in-26
unfolding shape
returns-in-26 c = known c.args.opcode 0x1A (omega arith)

pub returns-in-27 : goal.returns-in-27
unfolding shape
returns-in-27 c = known c.args.opcode 0x1B (omega arith)

pub returns-in-32 : goal.returns-in-32
unfolding shape
returns-in-32 c = known c.args.opcode 0x20 (omega arith)

pub returns-in-33 : goal.returns-in-33
unfolding shape
returns-in-33 c = known c.args.opcode 0x21 (omega arith)

pub returns-in-34 : goal.returns-in-34
unfolding shape
returns-in-34 c = known c.args.opcode 0x22 (omega arith)

pub returns-in-35 : goal.returns-in-35
unfolding shape
returns-in-35 c = known c.args.opcode 0x23 (omega arith)

pub returns-in-36 : goal.returns-in-36
unfolding shape
returns-in-36 c = known c.args.opcode 0x24 (omega arith)
