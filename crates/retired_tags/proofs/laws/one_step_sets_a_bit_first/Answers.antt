use Rattle.retired_tags.proofs.Rules.{set_by_one}
use Rattle.retired_tags.proofs.laws.one_step_sets_a_bit_first.Goals as goal

pub returns : goal.returns
returns c = set_by_one
