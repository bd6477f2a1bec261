use Rattle.std.proofs.Common.{sym, ◌∙◌}
use Rattle.pool_limits.proofs.RangeLemmas.{in_range}
use Rattle.pool_limits.proofs.config.PoolConfig.new.Goals as goal

pub invariant_of-result : goal.invariant_of-result
invariant_of-result c = in_range c.args.numbers (sym c.first_outside.ensures ∙ c.in-None.is)
