-- The lane's share and the rest are all slots.
use Rattle.std.proofs.Common.{◌-◌, ◌==◌, arith}
use Rattle.std.proofs.lemmas.Bool.{cond_both}
use Rattle.pool_limits.specs.declared.numbers.Numbers.{Numbers}
use Rattle.pool_limits.specs.declared.share.Share.{Share}
use Rattle.pool_limits.specs.Ranges.{AreInRange}
use Rattle.pool_limits.specs.Shares.{AreAllSlots, lane_share, shared_share}

-- what a share leaves
abbrev rest_of : Numbers → Share → Share
rest_of n s = record { instances = n.instances - s.instances; memories = n.memories - s.memories; tables = n.tables - s.tables }

abbrev all_of : Numbers → Share
all_of n = record { instances = n.instances; memories = n.memories; tables = n.tables }

abbrev one_of_each : Share
one_of_each = record { instances = 1; memories = 1; tables = 1 }

pub all_slots : (n : Numbers) → AreInRange n → AreAllSlots n (lane_share n) (shared_share n)
all_slots n is =
    let instances = is.instances.0 in
    let memories = is.memories.0 in
    let tables = is.tables.0 in
    cond_both (n.workers == 1) (all_of n) one_of_each (λ lane. AreAllSlots n lane (rest_of n lane))
    (λ _. record { instances = omega arith; memories = omega arith; tables = omega arith })
    (λ _. record { instances = omega arith; memories = omega arith; tables = omega arith })
