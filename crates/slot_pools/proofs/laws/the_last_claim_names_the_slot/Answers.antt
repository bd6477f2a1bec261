use Rattle.slot_pools.proofs.LastClaiming.{take_ends}
use Rattle.slot_pools.proofs.laws.the_last_claim_names_the_slot.Goals as goal

pub returns : goal.returns
returns c = take_ends
