use Rattle.std.proofs.Common.{arith}
use Rattle.std.proofs.lemmas.Grind.{common_steps}
use Rattle.affinity_index.proofs.claim_order.rank_all.Goals as goal
use Rattle.affinity_index.proofs.claim_order.rank_all.Goals.{in-Some, in_default}

pub loop-n-preserved : goal.loop-n-preserved
loop-n-preserved c = elim c.match-rank.branch [ in-Some w ↦ grind (arith, common_steps) | in_default w ↦ grind (arith, common_steps) ]

pub returns-clause-once : goal.returns-clause-once
returns-clause-once c = grind (arith, common_steps)
