use Rattle.decommit_batch.proofs.WorkedSweep.{worked}
use Rattle.decommit_batch.proofs.laws.worked_sweeps.Goals as goal

pub returns : goal.returns
returns c = worked
