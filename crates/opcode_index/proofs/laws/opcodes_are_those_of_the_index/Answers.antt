use Rattle.std.proofs.Common.{refl}
use Rattle.opcode_index.proofs.OpcodeExamples.{rows, others}
use Rattle.opcode_index.proofs.laws.opcodes_are_those_of_the_index.Goals as goal

pub returns-clause-rows : goal.returns-clause-rows
returns-clause-rows c = rows

pub returns-clause-others : goal.returns-clause-others
returns-clause-others c = others

pub returns-clause-all : goal.returns-clause-all
returns-clause-all c = refl
