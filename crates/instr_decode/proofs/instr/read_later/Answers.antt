use Rattle.std.proofs.Common.{refl, ◌∙◌, arith}
use Rattle.instr_decode.proofs.AddedOpcodes.{extension-is, prefix-is}
use Rattle.instr_decode.proofs.Opcodes.{same-outside}
use Rattle.instr_decode.proofs.instr.read_later.Goals as goal
use Rattle.instr_decode.proofs.instr.read_later.Goals.{in_default-via-then-opcode-lt192, in_default-via-else-opcode-lt192+else-opcode-lt197}

pub returns-in-252-clause-read : goal.returns-in-252-clause-read
returns-in-252-clause-read c = rw (prefix-is c.args.opcode c.in-252.is) c.prefixed.ensures.read

pub returns-in-192-to-196-clause-read : goal.returns-in-192-to-196-clause-read
returns-in-192-to-196-clause-read c =
    rw (extension-is c.args.opcode (omega arith) (omega arith) ∙ c.extension.ensures) (record { whole = refl; forth = omega arith; within = c.requires; spelled = (refl, refl) })

pub returns-in_default-clause-read : goal.returns-in_default-clause-read
returns-in_default-clause-read c = elim c.in_default.branch [
  | in_default-via-then-opcode-lt192 w ↦ rw (same-outside c.args.opcode (λ a b. omega arith) (λ e. omega arith)) c.read_common.ensures.read
  | in_default-via-else-opcode-lt192+else-opcode-lt197 w ↦ rw (same-outside c.args.opcode (λ a b. omega arith) (λ e. omega arith)) c.read_common.ensures.read
]

pub returns-in_default-clause-wanted : goal.returns-in_default-clause-wanted
returns-in_default-clause-wanted c = elim c.in_default.branch [
  | in_default-via-then-opcode-lt192 w ↦ rw (same-outside c.args.opcode (λ a b. omega arith) (λ e. omega arith)) c.read_common.ensures.wanted
  | in_default-via-else-opcode-lt192+else-opcode-lt197 w ↦ rw (same-outside c.args.opcode (λ a b. omega arith) (λ e. omega arith)) c.read_common.ensures.wanted
]
