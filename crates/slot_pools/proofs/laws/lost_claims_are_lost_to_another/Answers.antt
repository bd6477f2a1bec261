use Rattle.slot_pools.proofs.Causing.{lost_to_another}
use Rattle.slot_pools.proofs.laws.lost_claims_are_lost_to_another.Goals as goal

pub returns : goal.returns
returns g c = lost_to_another g.V.Pooled.fits c.passes_share_the_words.ensures.held_by_another c.the_lowest_bit_says_held.ensures.says
