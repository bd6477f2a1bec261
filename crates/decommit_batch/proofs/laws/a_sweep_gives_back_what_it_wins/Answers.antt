use Rattle.decommit_batch.proofs.SweepParts.{sweeps_account}
use Rattle.decommit_batch.proofs.laws.a_sweep_gives_back_what_it_wins.Goals as goal

pub returns : goal.returns
returns c = sweeps_account
