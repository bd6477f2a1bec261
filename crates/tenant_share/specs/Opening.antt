-- Tenants' hosts while they are opened one after another.
use Rattle.std.specs.Prelude.{◌≡◌, ℕ, List, [], ◌∷◌, ◌++◌, length, slice_get, Some}
use Rattle.std.specs.List.{All}
use Rattle.pool_limits.specs.declared.wants.Want.{Want}
use Rattle.module_store.specs.declared.naming.Naming.{Ghosts}
use Rattle.pool_host.specs.declared.host.Host.{Host}
use Rattle.pool_host.specs.declared.passes.HostPass.{HostPass}
use Rattle.pool_host.specs.Hosts.{HandedOut, HasShare, IsNewHostPass}
use Rattle.tenant_share.specs.declared.passes.Caller.{Caller}
use Rattle.tenant_share.specs.declared.passes.TenantPass.{TenantPass}
use Rattle.tenant_share.specs.declared.share_host.ShareHost.{ShareHost}
use Rattle.tenant_share.specs.Tenants.{wanted_share, tenants_of, IsNewTenantPass}

module _ {N : Type 0} {G : Ghosts N} where
  -- a host's pass as this tenant's
  abbrev pub of_tenant : ℕ → HostPass N G → TenantPass N G
  of_tenant tenant pass = record { pass = pass; tenant = tenant }

  -- a host is one more, that of the next tenant of these shares, and these are its passes
  pub record AddsHost (all : List Want) (passes : ℕ) (before after : ShareHost N) (own : List (HostPass N G)) : Type 0 where
    pub host : Host N
    pub hosts_are : after.hosts.items ≡ before.hosts.items ++ host ∷ []
    pub has : (want : Want) → slice_get all (tenants_of before) ≡ Some want → HasShare want.warm (wanted_share want) host
    pub out : HandedOut host passes
    pub many : length own ≡ passes
    pub new : All (IsNewHostPass host) own

  -- a caller with no pass yet
  abbrev pub IsEmptyCaller : Caller N G → Type 0
  IsEmptyCaller caller = caller.passes.items ≡ []

  -- one with a new pass of each tenant
  pub record IsFresh (share : ShareHost N) (caller : Caller N G) : Type 0 where
    pub many : length caller.passes.items ≡ tenants_of share
    pub each : (tenant : ℕ) (pass : TenantPass N G) → slice_get caller.passes.items tenant ≡ Some pass → IsNewTenantPass share tenant pass

  -- these were so before the last host came, whose passes these are
  pub record WereFresh (share : ShareHost N) (own : List (HostPass N G)) (callers : List (Caller N G)) : Type 0 where
    pub before : ShareHost N
    pub host : Host N
    pub hosts_are : share.hosts.items ≡ before.hosts.items ++ host ∷ []
    pub new : All (IsNewHostPass host) own
    pub each : All (IsFresh before) callers
