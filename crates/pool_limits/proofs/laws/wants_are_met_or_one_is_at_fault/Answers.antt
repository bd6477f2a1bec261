use Rattle.pool_limits.proofs.WantLemmas.{may_want, no_fault}
use Rattle.pool_limits.proofs.laws.wants_are_met_or_one_is_at_fault.Goals as goal

pub returns : goal.returns
returns c = λ n ws. (may_want n ws, no_fault n ws)
