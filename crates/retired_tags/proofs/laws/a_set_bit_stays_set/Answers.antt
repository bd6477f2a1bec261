use Rattle.retired_tags.proofs.Rules.{set_for_good}
use Rattle.retired_tags.proofs.laws.a_set_bit_stays_set.Goals as goal

pub returns : goal.returns
returns c = set_for_good
