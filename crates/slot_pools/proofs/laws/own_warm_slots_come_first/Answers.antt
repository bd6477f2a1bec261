use Rattle.std.proofs.Common.{leb}
use Rattle.slot_pools.proofs.laws.own_warm_slots_come_first.Goals as goal

pub returns : goal.returns
returns c = λ limit slots tag order done look. c.own_warm_slots_come_first.ensures.first look.seen tag (leb limit look.warm) order look.order_is
