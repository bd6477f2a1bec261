use Rattle.pool_core.proofs.ChangeLemmas.{changes_only}
use Rattle.pool_core.proofs.laws.events_change_only_their_own.Goals as goal

pub returns : goal.returns
returns c = changes_only
