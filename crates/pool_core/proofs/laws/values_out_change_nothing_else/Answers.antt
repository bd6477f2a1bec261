use Rattle.pool_core.proofs.OutFlags.{out_changes_nothing_else}
use Rattle.pool_core.proofs.laws.values_out_change_nothing_else.Goals as goal

pub returns : goal.returns
returns c = out_changes_nothing_else
