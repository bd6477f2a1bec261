use Rattle.machine_steps.proofs.OperandLemmas.{values_split, has_some}
use Rattle.machine_steps.proofs.machine.Machine.last.Goals as goal

pub last-requires : goal.last-requires
last-requires c = has_some c.requires.configuration c.args.self.now c.requires.represents c.requires.some

pub returns : goal.returns
returns c k x vs sh e = c.last.ensures _ x (values_split k c.args.self.now x vs sh e)
