use Rattle.decommit_batch.proofs.SweptPools.{sweeps_alone}
use Rattle.decommit_batch.proofs.laws.a_sweep_alone_leaves_none_of_its_module.Goals as goal

pub returns : goal.returns
returns c = sweeps_alone
