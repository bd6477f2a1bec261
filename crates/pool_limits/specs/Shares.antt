-- Which slots the lane has, and which are shared.
use Rattle.std.specs.Prelude.{◌≡◌, ◌+◌, ◌-◌, ◌==◌, if◌then◌else◌}
use Rattle.pool_limits.specs.declared.numbers.Numbers.{Numbers}
use Rattle.pool_limits.specs.declared.share.Share.{Share}

-- with one worker the lane has all, and else one of each kind
abbrev pub lane_share : Numbers → Share
lane_share n = if n.workers == 1
    then record { instances = n.instances; memories = n.memories; tables = n.tables }
    else record { instances = 1; memories = 1; tables = 1 }

-- the rest
abbrev pub shared_share : Numbers → Share
shared_share n = record {
  instances = n.instances - (lane_share n).instances;
  memories = n.memories - (lane_share n).memories;
  tables = n.tables - (lane_share n).tables;
}

-- two shares are all slots, of each kind
pub record AreAllSlots (n : Numbers) (one other : Share) : Type 0 where
  pub instances : one.instances + other.instances ≡ n.instances
  pub memories : one.memories + other.memories ≡ n.memories
  pub tables : one.tables + other.tables ≡ n.tables
