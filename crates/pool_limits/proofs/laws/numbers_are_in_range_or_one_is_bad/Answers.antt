use Rattle.pool_limits.proofs.RangeLemmas.{in_range, none_bad}
use Rattle.pool_limits.proofs.laws.numbers_are_in_range_or_one_is_bad.Goals as goal

pub returns : goal.returns
returns c = λ n. (in_range n, none_bad n)
