-- A caller's passes, and what a call leaves of them.
use Rattle.std.proofs.Common.{◌≡◌, ◌≢◌, ℕ, ◌<◌, ◌∙◌, List, [], length, get_or, set, slice_get, Option, Some, option_map, refl, sym, ap, subst, inl, inr, arith}
use mathlib.Core.Logic.{dite}
use native.Mathlib.Decide.{ℕ_discrete}
use Rattle.std.specs.Option.{option_map_or}
use Rattle.std.proofs.lemmas.List.{length-set}
use Rattle.std.proofs.lemmas.Option.{same_Some, slice_get_read, slice_get_within}
use Rattle.module_store.specs.declared.naming.Naming.{Ghosts}
use Rattle.pool_host.specs.declared.host.Host.{Host}
use Rattle.pool_host.specs.declared.passes.Passes.{Passes}
use Rattle.pool_host.specs.Hosts.{ArePassesOf}
use Rattle.tenant_share.specs.declared.passes.Caller.{Caller}
use Rattle.tenant_share.specs.declared.passes.TenantPass.{TenantPass}
use Rattle.tenant_share.specs.declared.share_host.ShareHost.{ShareHost}
use Rattle.tenant_share.specs.Tenants.{answer_of, passes_at, tenants_of, IsCaller, IsHostOf, IsSameTenantPass, IsTenantPass}
use Rattle.tenant_share.proofs.PlaceLemmas.{get-set, get-set_cases, get-set_elsewhere, get_there}

module _ {N : Type 0} {G : Ghosts N} where
  -- a caller has a pass of each tenant
  pub has_pass : (share : ShareHost N) (caller : Caller N G) → IsCaller share caller → (tenant : ℕ) → tenant < tenants_of share
      → (pass : TenantPass N G) × (slice_get caller.passes.items tenant ≡ Some pass)
  has_pass share caller is tenant within = let m = is.many in get_there caller.passes.items tenant (omega arith)

  -- which is one of the tenant's host
  pub has_passes : (share : ShareHost N) (caller : Caller N G) (tenant : ℕ) (host : Host N) → IsCaller share caller → IsHostOf share tenant host
      → (p : Passes N) × (passes_at caller tenant ≡ Some p) × ArePassesOf host p
  has_passes share caller tenant host is there =
      let found = has_pass share caller is tenant (slice_get_within share.hosts.items tenant host there) in
      let each = is.each tenant found.0 found.1 in
      let own = each.1 in
      let host_is : own.host ≡ host = same_Some own.host host (sym (rw each.0 at own.there) ∙ there) in
      (found.0.pass.passes, ap (λ (o : Option (TenantPass N G)). option_map (λ (pass : TenantPass N G). pass.pass.passes) o) found.1, subst (λ (h : Host N). ArePassesOf h found.0.pass.passes) host_is own.own.pools)

  -- the pass that is read of a tenant
  module _ (share : ShareHost N) (old : Caller N G) (is : IsCaller share old) (tenant : ℕ) (within : tenant < tenants_of share) (before : TenantPass N G) (read : before ≡ get_or old.passes.items tenant before) where
    pub within_reach : tenant < length old.passes.items
    within_reach = let m = is.many in omega arith

    pub read_there : slice_get old.passes.items tenant ≡ Some before
    read_there = slice_get_read old.passes.items (length old.passes.items) tenant before refl within_reach read

    pub read_of : before.tenant ≡ tenant
    read_of = (is.each tenant before read_there).0

    pub read_own : IsTenantPass share before
    read_own = (is.each tenant before read_there).1

    pub host_read : (host : Host N) → IsHostOf share tenant host → IsHostOf share before.tenant host
    host_read host there = subst (λ (t : ℕ). IsHostOf share t host) (sym read_of) there

    -- it became another
    module _ (now : Caller N G) (pass : TenantPass N G) (set_is : now.passes.items ≡ set old.passes.items tenant pass) where
      pub pass_there : slice_get now.passes.items tenant ≡ Some pass
      pass_there = ap (λ (ps : List (TenantPass N G)). slice_get ps tenant) set_is ∙ get-set old.passes.items tenant pass within_reach

      pub pass_elsewhere : (t : ℕ) → t ≢ tenant → slice_get now.passes.items t ≡ slice_get old.passes.items t
      pass_elsewhere t other = ap (λ (ps : List (TenantPass N G)). slice_get ps t) set_is ∙ get-set_elsewhere old.passes.items tenant t pass other

      pub still_caller : IsSameTenantPass before pass → IsTenantPass share pass → IsCaller share now
      still_caller same own = record {
        many = ap length set_is ∙ (length-set old.passes.items tenant pass ∙ is.many);
        each = λ t got there. elim (get-set_cases old.passes.items tenant t pass got (rw set_is at there)) [
          | inl here ↦ subst (λ (p : TenantPass N G). (p.tenant ≡ t) × IsTenantPass share p) here.1 (same.tenant_is ∙ (read_of ∙ sym here.0), own)
          | inr elsewhere ↦ is.each t got elsewhere
        ];
      }

      pub answer_there : answer_of now tenant ≡ pass.pass.answer
      answer_there = ap (λ (o : Option (TenantPass N G)). option_map_or (λ (p : TenantPass N G). p.pass.answer) o []) pass_there

      pub answer_elsewhere : (t : ℕ) → t ≢ tenant → answer_of now t ≡ answer_of old t
      answer_elsewhere t other = ap (λ (o : Option (TenantPass N G)). option_map_or (λ (p : TenantPass N G). p.pass.answer) o []) (pass_elsewhere t other)

      -- a part of each of its other passes is as it was
      pub part_elsewhere : {A : Type 0} (part : TenantPass N G → A) (t : ℕ) → t ≢ tenant → option_map part (slice_get now.passes.items t) ≡ option_map part (slice_get old.passes.items t)
      part_elsewhere part t other = ap (option_map part) (pass_elsewhere t other)

      -- what holds of a part of the pass and of what it became holds of that part of the caller's pass of the tenant
      pub at_both : {A : Type 0} (part : TenantPass N G → A) (R : A → A → Type 0) → R (part before) (part pass) → (p q : A)
          → option_map part (slice_get old.passes.items tenant) ≡ Some p → option_map part (slice_get now.passes.items tenant) ≡ Some q → R p q
      at_both part R holds p q was now_is =
          let first = same_Some (part before) p (sym (ap (option_map part) read_there) ∙ was) in
          let second = same_Some (part pass) q (sym (ap (option_map part) pass_there) ∙ now_is) in
          subst (λ x. R x q) first (subst (λ y. R (part before) y) second holds)

      -- and what holds of all of it
      pub at_tenant : (R : TenantPass N G → TenantPass N G → Type 0) → R before pass → (x y : TenantPass N G)
          → slice_get old.passes.items tenant ≡ Some x → slice_get now.passes.items tenant ≡ Some y → R x y
      at_tenant R holds x y was now_is =
          let first : before ≡ x = same_Some before x (sym read_there ∙ was) in
          let second : pass ≡ y = same_Some pass y (sym pass_there ∙ now_is) in
          subst (λ (z : TenantPass N G). R z y) first (subst (λ (z : TenantPass N G). R before z) second holds)

      -- where it kept its bytes, the caller did
      pub bytes_stay : pass.pass.answer ≡ before.pass.answer → (t : ℕ) → answer_of now t ≡ answer_of old t
      bytes_stay kept t = dite (ℕ_discrete t tenant)
          (λ same. let was : answer_of old tenant ≡ before.pass.answer = ap (λ (o : Option (TenantPass N G)). option_map_or (λ (p : TenantPass N G). p.pass.answer) o []) read_there in
          subst (λ (u : ℕ). answer_of now u ≡ answer_of old u) (sym same) (answer_there ∙ (kept ∙ sym was)))
          (λ other. answer_elsewhere t other)
