use Rattle.instr_decode.proofs.AddedOpcodes.{same-third}
use Rattle.instr_decode.proofs.instr.read_instr.Goals as goal

pub returns-in-Three-clause-read : goal.returns-in-Three-clause-read
returns-in-Three-clause-read c = rw (same-third c.args.profile c.args.opcode c.in-Three.is) c.read_later-in-Three.ensures.read

pub returns-in-Three-clause-wanted : goal.returns-in-Three-clause-wanted
returns-in-Three-clause-wanted c = rw (same-third c.args.profile c.args.opcode c.in-Three.is) c.read_later-in-Three.ensures.wanted
