-- What tenants may want, and why they can't have it.
use Rattle.std.specs.Prelude.{◌≡◌, ℕ, ◌+◌, ◌≤◌, ◌==◌, Bool, List, [], ◌∷◌, length, Option, Some, None, find, nat_lt, option_map, if◌then◌else◌}
use Rattle.std.specs.List.{All, sum_by}
use Rattle.std.specs.Option.{option_or}
use Rattle.pool_limits.specs.declared.numbers.Numbers.{Numbers}
use Rattle.pool_limits.specs.declared.wants.TheConstants.{MOST_TENANTS}
use Rattle.pool_limits.specs.declared.wants.Part.{Part}
use Rattle.pool_limits.specs.declared.wants.Part.TheVariants.{Instance, Memory, Table, Warm}
use Rattle.pool_limits.specs.declared.wants.PlanFault.{PlanFault}
use Rattle.pool_limits.specs.declared.wants.PlanFault.TheVariants.{TooManyTenants, BadShare, Over}
use Rattle.pool_limits.specs.declared.wants.Want.{Want}

-- how much of a part a share has, and how much of it there is
abbrev pub amount : Part → Want → ℕ
amount Instance w = w.instances
amount Memory w = w.memories
amount Table w = w.tables
amount Warm w = w.warm

abbrev pub total : Part → Numbers → ℕ
total Instance n = n.instances
total Memory n = n.memories
total Table n = n.tables
total Warm n = n.warm

-- how much of it nobody may want: of each kind of slot one is the lane's, and at least one is tenant 0's
abbrev pub kept : Part → ℕ
kept Instance = 2
kept Memory = 2
kept Table = 2
kept Warm = 0

-- what tenants want of it together
abbrev pub wanted : Part → List Want → ℕ
wanted part ws = sum_by (amount part) ws

-- the first kind of slot of which a share has none
abbrev pub empty_part : Want → Option Part
empty_part w = if w.instances == 0 then Some Instance else (if w.memories == 0 then Some Memory else (if w.tables == 0 then Some Table else None))

-- the first such share, of tenants that are numbered from this one on
abbrev pub first_bad : (tenant : ℕ) → List Want → Option PlanFault
first_bad tenant [] = None
first_bad tenant (w ∷ ws) = option_or (option_map (λ kind. BadShare tenant kind) (empty_part w)) (first_bad (tenant + 1) ws)

-- the first part of which they want too much together
abbrev pub is_over : Numbers → List Want → Part → Bool
is_over n ws part = nat_lt (total part n) (wanted part ws + kept part)

abbrev pub over_fault : Numbers → List Want → Part → PlanFault
over_fault n ws part = Over part (wanted part ws) (total part n)

abbrev pub first_over : Numbers → List Want → Option PlanFault
first_over n ws = option_map (over_fault n ws) (find (is_over n ws) (Instance ∷ Memory ∷ Table ∷ Warm ∷ []))

-- why tenants 1, 2, .. can't have what they want, if they can't
abbrev pub plan_fault : Numbers → List Want → Option PlanFault
plan_fault n ws = if nat_lt MOST_TENANTS (length ws) then Some (TooManyTenants (length ws)) else option_or (first_bad 1 ws) (first_over n ws)

-- a slot of each kind
pub record HasSlots (w : Want) : Type 0 where
  pub instances : 1 ≤ w.instances
  pub memories : 1 ≤ w.memories
  pub tables : 1 ≤ w.tables

-- Few tenants want a slot of each kind each, and together leave two of each kind, and want no more warm slots than there may be.
pub record MayWant (n : Numbers) (ws : List Want) : Type 0 where
  pub few : length ws ≤ MOST_TENANTS
  pub each : All HasSlots ws
  pub instances : wanted Instance ws + 2 ≤ n.instances
  pub memories : wanted Memory ws + 2 ≤ n.memories
  pub tables : wanted Table ws + 2 ≤ n.tables
  pub warm : wanted Warm ws ≤ n.warm
