use Rattle.slot_pools.proofs.Causing.{batched_cause, affine_cause, any_cause}
use Rattle.slot_pools.proofs.laws.full_has_its_cause.Goals as goal

pub returns-clause-batched : goal.returns-clause-batched
returns-clause-batched c = batched_cause

pub returns-clause-affine : goal.returns-clause-affine
returns-clause-affine c = affine_cause

pub returns-clause-any : goal.returns-clause-any
returns-clause-any c = any_cause
