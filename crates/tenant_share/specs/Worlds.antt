-- Pools that open by a plan.
use Rattle.std.specs.Prelude.{ℕ, ◌≤◌, List, length, map}
use Rattle.pool_limits.specs.declared.numbers.Numbers.{Numbers}
use Rattle.pool_limits.specs.declared.wants.Want.{Want}
use Rattle.pool_model.specs.declared.kinds.Kind.{Kind}
use Rattle.pool_model.specs.Tenants.{all_free_warm, pools_after_all, AllMayCome, OpenWithin, Pools, TenantEvent, Tenants}
use Rattle.tenant_share.specs.Shares.{IsPlan}

-- how many of a share's slots of a kind may be warm
abbrev pub warm_of : Want → ℕ
warm_of share = share.warm

-- Whatever events came, the free warm slots of all tenants of a plan are no more than the configuration has.
abbrev pub PlansBoundWarmSlots : Type 0
PlansBoundWarmSlots = (n : Numbers) (all : List Want) (ws : Tenants) (ps : Pools) (es : List TenantEvent) (k : Kind)
    → IsPlan n all → OpenWithin ws ps k (map warm_of all) → AllMayCome ws ps es → all_free_warm (pools_after_all ws ps es) k (length all) ≤ n.warm
