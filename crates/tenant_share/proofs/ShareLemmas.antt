-- What tenants have adds up.
use Rattle.std.proofs.Common.{◌≡◌, ℕ, zero, suc, ◌+◌, ◌-◌, ◌∙◌, ◌≤◌, List, [], ◌∷◌, length, sym, ap, subst, arith}
use Rattle.std.specs.Prelude.{None, Some, map, slice_get, sum}
use Rattle.std.proofs.lemmas.Bool.{cond-false, ne_eqb}
use Rattle.std.proofs.lemmas.List.{length-map}
use Rattle.std.proofs.lemmas.List.Sums.{get_or-le-sum_by, sum-map, sum_by-cons}
use Rattle.std.proofs.lemmas.Option.{get_or_from_slice_get, slice_get_within}
use Rattle.pool_limits.specs.declared.numbers.Numbers.{Numbers}
use Rattle.pool_limits.specs.declared.share.Share.{Share}
use Rattle.pool_limits.specs.declared.wants.Part.{Part}
use Rattle.pool_limits.specs.declared.wants.Part.TheVariants.{Instance, Memory, Table, Warm}
use Rattle.pool_limits.specs.declared.wants.Want.{Want}
use Rattle.pool_limits.specs.Plans.{amount, kept, plan_fault, total, wanted, HasSlots, MayWant}
use Rattle.pool_limits.specs.Ranges.{AreInRange}
use Rattle.pool_limits.specs.Shares.{AreAllSlots, lane_share, shared_share}
use Rattle.pool_limits.proofs.WantLemmas.{may_want}
use Rattle.pool_model.specs.Tenants.{all_free_warm, pools_after_all, WarmSlotsStayWithin}
use Rattle.pool_host.specs.Hosts.{IsShare}
use Rattle.tenant_share.specs.Shares.{all_of, rest, shares, IsPlan}
use Rattle.tenant_share.specs.Tenants.{wanted_share}
use Rattle.tenant_share.specs.Worlds.{warm_of, PlansBoundWarmSlots}
use Rattle.tenant_share.proofs.PlaceLemmas.{All-at}

-- of each part enough is left
pub part-within : (n : Numbers) (ws : List Want) → MayWant n ws → (part : Part) → wanted part ws + kept part ≤ total part n
part-within n ws may Instance = may.instances
part-within n ws may Memory = may.memories
part-within n ws may Table = may.tables
part-within n ws may Warm = let most = may.warm in omega arith

wanted-rest : (n : Numbers) (ws : List Want) (part : Part) → wanted part (shares n ws) ≡ amount part (rest n ws) + wanted part ws
wanted-rest n ws part = sum_by-cons (amount part) (rest n ws) ws

pub is-plan : (n : Numbers) (ws : List Want) → MayWant n ws → IsPlan n (shares n ws)
is-plan n ws may = let i = wanted-rest n ws Instance in let m = wanted-rest n ws Memory in let t = wanted-rest n ws Table in let w = wanted-rest n ws Warm in
    let oi = may.instances in let om = may.memories in let ot = may.tables in let ow = may.warm in let few = may.few in record {
      some = omega arith;
      few = omega arith;
      each = elim [
        | zero ↦ λ d h. record { instances = omega arith; memories = omega arith; tables = omega arith }
        | suc j ↦ λ d h. may.each j d (omega arith)
      ];
      sums = record { slots = record { instances = omega arith; memories = omega arith; tables = omega arith }; warm = omega arith };
    }

pub planned : (n : Numbers) (ws : List Want) → plan_fault n ws ≡ None → IsPlan n (shares n ws)
planned n ws e = is-plan n ws (may_want n ws e)

abbrev one_of_each : Share
one_of_each = record { instances = 1; memories = 1; tables = 1 }

lane-is : (n : Numbers) → 2 ≤ n.workers → lane_share n ≡ one_of_each
lane-is n several = cond-false _ _ _ (ne_eqb n.workers 1 (λ e. omega arith))

pub beside-lane : (n : Numbers) (ws : List Want) → 2 ≤ n.workers → plan_fault n ws ≡ None → AreAllSlots n (lane_share n) (all_of (shares n ws))
beside-lane n ws several e = subst (λ (lane : Share). AreAllSlots n lane (all_of (shares n ws))) (sym (lane-is n several)) (planned n ws e).sums.slots

-- what a share leaves
abbrev rest_beside : Numbers → Share → Share
rest_beside n s = record { instances = n.instances - s.instances; memories = n.memories - s.memories; tables = n.tables - s.tables }

pub all-left : (n : Numbers) → 2 ≤ n.workers → all_of (rest n [] ∷ []) ≡ shared_share n
all-left n several = let i : wanted Instance (rest n [] ∷ []) ≡ n.instances - 1 = omega arith in
    let m : wanted Memory (rest n [] ∷ []) ≡ n.memories - 1 = omega arith in
    let t : wanted Table (rest n [] ∷ []) ≡ n.tables - 1 = omega arith in
    let shared : shared_share n ≡ rest_beside n one_of_each = ap (rest_beside n) (lane-is n several) in
    (λ j. record { instances = i j; memories = m j; tables = t j }) ∙ sym shared

pub warm-left : (n : Numbers) → (rest n []).warm ≡ n.warm
warm-left n = omega arith

-- a tenant has no more of a part than all tenants have
amount-within : (all : List Want) (part : Part) (tenant : ℕ) (w : Want) → slice_get all tenant ≡ Some w → amount part w ≤ wanted part all
amount-within all part tenant w there =
    subst (λ (v : Want). amount part v ≤ wanted part all) (get_or_from_slice_get all tenant w w there) (get_or-le-sum_by (amount part) all tenant w (slice_get_within all tenant w there))

-- so its slots can be those of pools
pub is-share : (n : Numbers) (all : List Want) (tenant : ℕ) (w : Want) → AreInRange n → IsPlan n all → slice_get all tenant ≡ Some w → IsShare (wanted_share w)
is-share n all tenant w in_range plan there =
    let has = All-at HasSlots all tenant w plan.each there in
    let i = amount-within all Instance tenant w there in let m = amount-within all Memory tenant w there in let t = amount-within all Table tenant w there in
    let s = plan.sums.slots in let si = s.instances in let sm = s.memories in let st = s.tables in
    let ri = in_range.instances in let rm = in_range.memories in let rt = in_range.tables in
    record { instances = (has.instances, omega arith); memories = (has.memories, omega arith); tables = (has.tables, omega arith) }

-- the warm slots of a plan's pools
pub warm-within : WarmSlotsStayWithin → PlansBoundWarmSlots
warm-within stay n all ws ps es k plan opens may =
    let limits : List ℕ = map warm_of all in
    let within : all_free_warm (pools_after_all ws ps es) k (length all) ≤ sum limits =
    subst (λ (m : ℕ). all_free_warm (pools_after_all ws ps es) k m ≤ sum limits) (length-map all warm_of) (stay ws ps es k limits opens may) in
    let all_warm : sum limits ≡ n.warm = sum-map warm_of all ∙ plan.sums.warm in
    subst (λ (m : ℕ). all_free_warm (pools_after_all ws ps es) k (length all) ≤ m) all_warm within
