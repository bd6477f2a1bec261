-- What a caller has at a tenant's host, by its parts.
use Rattle.std.proofs.Common.{◌≡◌, ℕ, Option, None, Some, option_map, slice_get, refl, sym, ap, subst}
use Rattle.std.proofs.lemmas.Option.{none-some, same_Some, slice_get_within}
use Rattle.module_store.specs.declared.naming.Naming.{Ghosts}
use Rattle.pool_host.specs.declared.host.Host.{Host}
use Rattle.tenant_share.specs.declared.passes.Caller.{Caller}
use Rattle.tenant_share.specs.declared.passes.TenantPass.{TenantPass}
use Rattle.tenant_share.specs.declared.share_host.ShareHost.{ShareHost}
use Rattle.tenant_share.specs.Tenants.{passes_at, tags_at, IsCaller, IsHostOf}
use Rattle.tenant_share.proofs.CallerLemmas.{has_pass}
use Rattle.tenant_share.proofs.PlaceLemmas.{option_map_some}
use Rattle.call_workers.specs.Passes.{at_host, AtHost}

module _ {N : Type 0} {G : Ghosts N} where
  abbrev pub host_part : TenantPass N G → AtHost N
  host_part pass = record { pools = pass.pass.passes; tags = pass.pass.retired }

  -- what holds of the parts of a caller's passes there holds of what it has there
  pub from_passes : (R : (before after : AtHost N) → Type 0) (was now : Caller N G) (tenant : ℕ) (before after : AtHost N) → at_host was tenant ≡ Some before → at_host now tenant ≡ Some after
      → ((b a : TenantPass N G) → slice_get was.passes.items tenant ≡ Some b → slice_get now.passes.items tenant ≡ Some a → R (host_part b) (host_part a)) → R before after
  from_passes R was now tenant before after had has holds =
      let b = option_map_some host_part (slice_get was.passes.items tenant) before had in
      let a = option_map_some host_part (slice_get now.passes.items tenant) after has in
      subst (λ (x : AtHost N). R x after) b.2 (subst (λ (y : AtHost N). R (host_part b.0) y) a.2 (holds b.0 a.0 b.1 a.1))

  same_parts : (a b : TenantPass N G) → a.pass.passes ≡ b.pass.passes → a.pass.retired ≡ b.pass.retired → host_part a ≡ host_part b
  same_parts a b pools tags = cc

  -- two passes with the same parts
  same_from_parts : (o u : Option (TenantPass N G)) → option_map (λ (p : TenantPass N G). p.pass.passes) o ≡ option_map (λ (p : TenantPass N G). p.pass.passes) u
      → option_map (λ (p : TenantPass N G). p.pass.retired) o ≡ option_map (λ (p : TenantPass N G). p.pass.retired) u → option_map host_part o ≡ option_map host_part u
  same_from_parts None None pools tags = refl
  same_from_parts None (Some b) pools tags = absurd (none-some _ pools)
  same_from_parts (Some a) None pools tags = absurd (none-some _ (sym pools))
  same_from_parts (Some a) (Some b) pools tags = ap Some (same_parts a b (same_Some _ _ pools) (same_Some _ _ tags))

  pub same_at_host : (was now : Caller N G) (tenant : ℕ) → passes_at now tenant ≡ passes_at was tenant → tags_at now tenant ≡ tags_at was tenant → at_host now tenant ≡ at_host was tenant
  same_at_host was now tenant pools tags = same_from_parts _ _ pools tags

  -- a caller has them at each tenant's host
  pub has_at_host : (share : ShareHost N) (caller : Caller N G) (tenant : ℕ) (host : Host N) → IsCaller share caller → IsHostOf share tenant host
      → (has : AtHost N) × (at_host caller tenant ≡ Some has)
  has_at_host share caller tenant host is there =
      let found = has_pass share caller is tenant (slice_get_within share.hosts.items tenant host there) in
      (host_part found.0, ap (option_map host_part) found.1)
