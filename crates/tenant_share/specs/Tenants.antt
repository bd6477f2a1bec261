-- Tenants' hosts, the passes of each, and callers, who have a pass of each tenant.
use Rattle.std.specs.Prelude.{◌≡◌, ℕ, ◌+◌, ◌*◌, ◌<◌, List, [], length, slice_get, Option, Some, option_map}
use Rattle.std.specs.Option.{option_map_or}
use Rattle.pool_limits.specs.declared.share.Share.{Share}
use Rattle.pool_limits.specs.declared.wants.Want.{Want}
use Rattle.retired_tags.specs.Passes.{IsNewTagPass, TagPass}
use Rattle.module_store.specs.declared.naming.Naming.{Ghosts}
use Rattle.pool_host.specs.declared.host.Host.{Host}
use Rattle.pool_host.specs.declared.passes.HostPass.{HostPass}
use Rattle.pool_host.specs.declared.passes.Passes.{Passes}
use Rattle.pool_host.specs.Hosts.{AreNewPassesOf, HandedOut, HasShare, IsHostPass, IsNewHostPass, IsSameHostPass}
use Rattle.tenant_share.specs.declared.passes.Caller.{Caller}
use Rattle.tenant_share.specs.declared.passes.TenantPass.{TenantPass}
use Rattle.tenant_share.specs.declared.share_host.ShareHost.{ShareHost}

-- a tenant's slots
abbrev pub wanted_share : Want → Share
wanted_share w = record { instances = w.instances; memories = w.memories; tables = w.tables }

module _ {N : Type 0} where
  -- how many tenants have a host
  abbrev pub tenants_of : ShareHost N → ℕ
  tenants_of share = length share.hosts.items

  -- the host of a tenant
  abbrev pub IsHostOf : ShareHost N → ℕ → Host N → Type 0
  IsHostOf share tenant host = slice_get share.hosts.items tenant ≡ Some host

  -- each of these hosts has the slots of its tenant's share, of which at most the warm ones are warm, and so many passes
  abbrev pub HaveShares : List Want → (passes : ℕ) → ShareHost N → Type 0
  HaveShares all passes share = (tenant : ℕ) (want : Want) (host : Host N) → slice_get all tenant ≡ Some want → IsHostOf share tenant host
      → HasShare want.warm (wanted_share want) host × HandedOut host passes

  -- there is a host for each share, and has these
  pub record HasShares (all : List Want) (passes : ℕ) (share : ShareHost N) : Type 0 where
    pub many : tenants_of share ≡ length all
    pub each : HaveShares all passes share

module _ {N : Type 0} {G : Ghosts N} where
  -- the pass is one of its tenant's host
  pub record IsTenantPass (share : ShareHost N) (pass : TenantPass N G) : Type 0 where
    pub host : Host N
    pub there : IsHostOf share pass.tenant host
    pub own : IsHostPass host pass.pass

  -- it stays that pass of that tenant
  pub record IsSameTenantPass (p q : TenantPass N G) : Type 0 where
    pub tenant_is : q.tenant ≡ p.tenant
    pub same : IsSameHostPass p.pass q.pass

  -- one of this tenant's, as it is handed out
  pub record IsNewTenantPass (share : ShareHost N) (tenant : ℕ) (pass : TenantPass N G) : Type 0 where
    pub tenant_is : pass.tenant ≡ tenant
    pub host : Host N
    pub there : IsHostOf share tenant host
    pub new : IsNewHostPass host pass.pass

  -- so many new passes of each tenant, in order of tenant
  abbrev pub AreInOrder : ShareHost N → (passes : ℕ) → List (TenantPass N G) → Type 0
  AreInOrder share passes all = (tenant i : ℕ) (pass : TenantPass N G) → i < passes → slice_get all (tenant * passes + i) ≡ Some pass → IsNewTenantPass share tenant pass

  -- of how many tenants a caller has a pass
  abbrev pub reach_of : Caller N G → ℕ
  reach_of caller = length caller.passes.items

  -- its passes of the pools of a tenant
  abbrev pub passes_at : Caller N G → ℕ → Option (Passes N)
  passes_at caller tenant = option_map (λ pass. pass.pass.passes) (slice_get caller.passes.items tenant)

  -- its pass at the retired tags of a tenant's host
  abbrev pub tags_at : Caller N G → ℕ → Option TagPass
  tags_at caller tenant = option_map (λ pass. pass.pass.retired) (slice_get caller.passes.items tenant)

  -- so it is of this tenant's host, and of the caller's pass there, as it was and as it is
  abbrev pub OnTenant : ShareHost N → (tenant : ℕ) → (was now : Caller N G) → (Host N → (before after : HostPass N G) → Type 0) → Type 0
  OnTenant share tenant was now P = (host : Host N) (before after : TenantPass N G) → IsHostOf share tenant host
      → slice_get was.passes.items tenant ≡ Some before → slice_get now.passes.items tenant ≡ Some after → P host before.pass after.pass

  -- the bytes that its last call for a tenant answered
  abbrev pub answer_of : Caller N G → ℕ → List ℕ
  answer_of caller tenant = option_map_or (λ pass. pass.pass.answer) (slice_get caller.passes.items tenant) []

  -- it has a pass of each tenant, by the tenants' numbers
  pub record IsCaller (share : ShareHost N) (caller : Caller N G) : Type 0 where
    pub many : reach_of caller ≡ tenants_of share
    pub each : (tenant : ℕ) (pass : TenantPass N G) → slice_get caller.passes.items tenant ≡ Some pass → (pass.tenant ≡ tenant) × IsTenantPass share pass

  -- and each of its passes is as it is handed out
  pub record IsNewCaller (share : ShareHost N) (caller : Caller N G) : Type 0 where
    pub pools : (tenant : ℕ) (host : Host N) (p : Passes N) → IsHostOf share tenant host → passes_at caller tenant ≡ Some p → AreNewPassesOf host p
    pub tags : (tenant : ℕ) (host : Host N) (p : TagPass) → IsHostOf share tenant host → tags_at caller tenant ≡ Some p → IsNewTagPass host.retired.tags p
