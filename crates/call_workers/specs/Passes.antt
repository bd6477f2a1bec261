-- What a caller has at the host of a tenant.
use Rattle.std.specs.Prelude.{◌≡◌, ℕ, Option, Some, option_map, slice_get}
use Rattle.retired_tags.specs.Passes.{TagPass}
use Rattle.module_store.specs.declared.naming.Naming.{Ghosts}
use Rattle.pool_host.specs.declared.host.Host.{Host}
use Rattle.pool_host.specs.declared.passes.Passes.{Passes}
use Rattle.tenant_share.specs.declared.passes.Caller.{Caller}
use Rattle.tenant_share.specs.declared.share_host.ShareHost.{ShareHost}
use Rattle.tenant_share.specs.Tenants.{IsHostOf}

-- its passes of the pools, and its pass at the retired tags
pub record AtHost (N : Type 0) : Type 0 where
  pub pools : Passes N
  pub tags : TagPass

module _ {N : Type 0} {G : Ghosts N} where
  -- what a caller has at this tenant's host
  abbrev pub at_host : Caller N G → ℕ → Option (AtHost N)
  at_host caller tenant = option_map (λ pass. record { pools = pass.pass.passes; tags = pass.pass.retired }) (slice_get caller.passes.items tenant)

  -- so it is of each tenant: of its host, and of what the caller has there, as it was and as it is
  abbrev pub OfEachTenant : ShareHost N → (was now : Caller N G) → (ℕ → Host N → (before after : AtHost N) → Type 0) → Type 0
  OfEachTenant share was now P = (tenant : ℕ) (host : Host N) (before after : AtHost N) → IsHostOf share tenant host
      → at_host was tenant ≡ Some before → at_host now tenant ≡ Some after → P tenant host before after
