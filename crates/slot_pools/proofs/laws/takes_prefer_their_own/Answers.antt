use Rattle.slot_pools.proofs.Preferring.{batched_prefers, affine_prefers}
use Rattle.slot_pools.proofs.laws.takes_prefer_their_own.Goals as goal

pub returns-clause-batched : goal.returns-clause-batched
returns-clause-batched c = let e = c.own_warm_slots_come_first.ensures in batched_prefers (λ seen tag full order is. (e.listed seen tag full order is, e.before seen tag full order is))

pub returns-clause-affine : goal.returns-clause-affine
returns-clause-affine c = let e = c.own_warm_slots_come_first.ensures in affine_prefers (λ seen tag full order is. (e.listed seen tag full order is, e.before seen tag full order is))
