-- What a caller's passes are after a module was retired.
use Rattle.std.specs.Prelude.{◌≡◌, ◌≢◌, ℕ, Some, slice_get}
use Rattle.retired_tags.specs.Passes.{steps}
use Rattle.retired_tags.specs.Steps.{Knows}
use Rattle.module_store.specs.declared.naming.Naming.{Ghosts}
use Rattle.pool_model.specs.Contents.{Named}
use Rattle.pool_host.specs.declared.host.Host.{Host}
use Rattle.pool_host.specs.declared.passes.HostPass.{HostPass}
use Rattle.pool_host.specs.declared.answers.Retire.{Retire}
use Rattle.pool_host.specs.declared.answers.Retire.TheVariants.{Already}
use Rattle.pool_host.specs.Looks.{SetsBit}
use Rattle.pool_host.specs.Retiring.{is_already, Sweeps}
use Rattle.tenant_share.specs.declared.passes.Caller.{Caller}
use Rattle.tenant_share.specs.declared.passes.TenantPass.{TenantPass}
use Rattle.tenant_share.specs.declared.share_host.ShareHost.{ShareHost}
use Rattle.tenant_share.specs.Tenants.{OnTenant}

module _ {N : Type 0} {G : Ghosts N} where
  -- a pass of the host retired the module, and was answered so
  pub record IsRetirement (host : Host N) (m : Named) (before after : HostPass N G) : Type 0 where
    pub how : Retire
    pub bit : SetsBit host.retired.tags m.tag before.retired after.retired (is_already how)
    pub known : Knows m.tag (steps after.retired)
    pub known_before : Knows m.tag (steps before.retired) → how ≡ Already
    pub sweeps : Sweeps host m how before.passes after.passes

  -- so did a caller's pass of this tenant on the tenant's host
  abbrev pub HasRetired : ShareHost N → Named → (tenant : ℕ) → (was now : Caller N G) → Type 0
  HasRetired share m tenant was now = OnTenant share tenant was now (λ host. IsRetirement host m)

  -- and its other passes are as they were
  pub record RetiredAt (share : ShareHost N) (m : Named) (tenant : ℕ) (was now : Caller N G) : Type 0 where
    pub own : HasRetired share m tenant was now
    pub others : (t : ℕ) → t ≢ tenant → slice_get now.passes.items t ≡ slice_get was.passes.items t

  -- so did each of them
  abbrev pub RetiredForAll : ShareHost N → Named → (was now : Caller N G) → Type 0
  RetiredForAll share m was now = (tenant : ℕ) → HasRetired share m tenant was now

  -- each pass of a caller knows that the module of this tag is retired
  abbrev pub CallerKnows : (tag : ℕ) → Caller N G → Type 0
  CallerKnows tag caller = (tenant : ℕ) (pass : TenantPass N G) → slice_get caller.passes.items tenant ≡ Some pass → Knows tag (steps pass.pass.retired)
