-- What each tenant has of the slots.
use Rattle.std.specs.Prelude.{◌≡◌, ℕ, ◌+◌, ◌-◌, ◌≤◌, List, ◌∷◌, length}
use Rattle.std.specs.List.{All}
use Rattle.pool_limits.specs.declared.numbers.Numbers.{Numbers}
use Rattle.pool_limits.specs.declared.share.Share.{Share}
use Rattle.pool_limits.specs.declared.wants.TheConstants.{MOST_TENANTS}
use Rattle.pool_limits.specs.declared.wants.Part.{Part}
use Rattle.pool_limits.specs.declared.wants.Part.TheVariants.{Instance, Memory, Table, Warm}
use Rattle.pool_limits.specs.declared.wants.Want.{Want}
use Rattle.pool_limits.specs.Plans.{total, wanted, HasSlots}
use Rattle.pool_limits.specs.Shares.{AreAllSlots}

-- how much of a part is the lane's, where others have the rest
abbrev pub of_lane : Part → ℕ
of_lane Instance = 1
of_lane Memory = 1
of_lane Table = 1
of_lane Warm = 0

-- what the lane and tenants that want this leave of it
abbrev pub left_of : Numbers → List Want → Part → ℕ
left_of n ws part = total part n - of_lane part - wanted part ws

-- tenant 0 has that
abbrev pub rest : Numbers → List Want → Want
rest n ws = record { instances = left_of n ws Instance; memories = left_of n ws Memory; tables = left_of n ws Table; warm = left_of n ws Warm }

-- what tenants 0, 1, .. have
abbrev pub shares : Numbers → List Want → List Want
shares n ws = rest n ws ∷ ws

-- the slots of all shares together
abbrev pub all_of : List Want → Share
all_of ws = record { instances = wanted Instance ws; memories = wanted Memory ws; tables = wanted Table ws }

-- The lane has one slot of each kind and the shares have the others, and the shares have all warm slots.
pub record AddUp (n : Numbers) (all : List Want) : Type 0 where
  pub slots : AreAllSlots n (record { instances = 1; memories = 1; tables = 1 }) (all_of all)
  pub warm : wanted Warm all ≡ n.warm

-- Each tenant, of whom there are few, has a slot of each kind, and the shares add up.
pub record IsPlan (n : Numbers) (all : List Want) : Type 0 where
  pub some : 1 ≤ length all
  pub few : length all ≤ MOST_TENANTS + 1
  pub each : All HasSlots all
  pub sums : AddUp n all
