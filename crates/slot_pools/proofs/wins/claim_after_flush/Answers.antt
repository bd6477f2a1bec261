use Rattle.std.proofs.Common.{arith}
use Rattle.std.proofs.lemmas.Grind.{common_steps}
use Rattle.slot_pools.proofs.wins.claim_after_flush.Goals as goal

pub returns-clause-trail : goal.returns-clause-trail
returns-clause-trail g c = grind (arith, common_steps)

pub returns-clause-held : goal.returns-clause-held
returns-clause-held g c = grind (arith, common_steps)
