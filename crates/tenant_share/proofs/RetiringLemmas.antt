-- A caller's passes, one after another of which retires a module.
use Rattle.std.proofs.Common.{◌≡◌, ℕ, ◌+◌, ◌<◌, ◌≤◌, ◌∙◌, ◌++◌, List, Some, ap, cond, slice_get, sym, subst, arith}
use Rattle.std.specs.List.{count_by}
use mathlib.Core.Logic.{dite}
use native.Mathlib.Decide.{ℕ_discrete}
use Rattle.std.proofs.lemmas.List.Sums.{sum_by-append}
use Rattle.std.proofs.lemmas.Option.{slice_get_within}
use Rattle.retired_tags.specs.declared.views.TagStep.{TagStep}
use Rattle.retired_tags.specs.Passes.{IsSameTagPass, TagPass, steps, trail}
use Rattle.retired_tags.specs.Steps.{Knows, tells}
use Rattle.module_store.specs.declared.naming.Naming.{Ghosts}
use Rattle.pool_model.specs.Contents.{Named}
use Rattle.pool_host.specs.declared.host.Host.{Host}
use Rattle.tenant_share.specs.declared.passes.Caller.{Caller}
use Rattle.tenant_share.specs.declared.passes.TenantPass.{TenantPass}
use Rattle.tenant_share.specs.declared.share_host.ShareHost.{ShareHost}
use Rattle.tenant_share.specs.Retiring.{CallerKnows, HasRetired, RetiredAt, RetiredForAll}
use Rattle.tenant_share.specs.Tenants.{tenants_of, IsCaller, IsHostOf}
use Rattle.tenant_share.proofs.CallerLemmas.{has_pass}

-- what a pass knows it knows after more steps of its own
pub still_knows : (tag : ℕ) (before after : TagPass) (more : List TagStep) → IsSameTagPass before after → trail after ≡ trail before ++ more → Knows tag (steps before) → Knows tag (steps after)
still_knows tag before after more same grew knows =
    let f : TagStep → ℕ = λ o. cond (tells tag o) 1 0 in
    let now : count_by (tells tag) (steps after) ≡ count_by (tells tag) (trail after) + count_by (tells tag) after.me.0.joined_trail = sum_by-append f (trail after) after.me.0.joined_trail in
    let grown : count_by (tells tag) (trail after) ≡ count_by (tells tag) (trail before) + count_by (tells tag) more = ap (count_by (tells tag)) grew ∙ sum_by-append f (trail before) more in
    let joined = ap (count_by (tells tag)) same.joined_is in
    let was : count_by (tells tag) (steps before) ≡ count_by (tells tag) (trail before) + count_by (tells tag) before.me.0.joined_trail = sum_by-append f (trail before) before.me.0.joined_trail in
    let knew : 1 ≤ count_by (tells tag) (steps before) = knows in
    let known : 1 ≤ count_by (tells tag) (steps after) = omega arith in known

module _ {N : Type 0} {G : Ghosts N} (share : ShareHost N) (m : Named) where
  -- the passes of so many tenants have retired it, and the others are as they were
  pub record RetiredUpTo (tenants : ℕ) (was now : Caller N G) : Type 0 where
    pub each : (tenant : ℕ) → tenant < tenants → HasRetired share m tenant was now
    pub rest : (tenant : ℕ) → tenants ≤ tenant → slice_get now.passes.items tenant ≡ slice_get was.passes.items tenant

  -- where a pass is the same before, or the same after, it retired the module as well
  from_same : (tenant : ℕ) (was mid now : Caller N G) → slice_get mid.passes.items tenant ≡ slice_get was.passes.items tenant → HasRetired share m tenant mid now → HasRetired share m tenant was now
  from_same tenant was mid now same retired = λ host before after there at there_now. retired host before after there (same ∙ at) there_now

  to_same : (tenant : ℕ) (was mid now : Caller N G) → slice_get now.passes.items tenant ≡ slice_get mid.passes.items tenant → HasRetired share m tenant was mid → HasRetired share m tenant was now
  to_same tenant was mid now same retired = λ host before after there at there_now. retired host before after there at (sym same ∙ there_now)

  pub one_more_retired : (tenant : ℕ) (was mid now : Caller N G) → RetiredUpTo tenant was mid → RetiredAt share m tenant mid now → RetiredUpTo (tenant + 1) was now
  one_more_retired tenant was mid now before last = record {
    each = λ t within. dite (ℕ_discrete t tenant)
        (λ same. subst (λ (u : ℕ). HasRetired share m u was now) (sym same) (from_same tenant was mid now (before.rest tenant (omega arith)) last.own))
        (λ other. to_same t was mid now (last.others t other) (before.each t (omega arith)));
    rest = λ t beyond. last.others t (λ same. omega arith) ∙ before.rest t (omega arith);
  }

  pub all_retired : (tenants : ℕ) (was now : Caller N G) → tenants ≡ tenants_of share → RetiredUpTo tenants was now → RetiredForAll share m was now
  all_retired tenants was now all done = λ tenant host before after there. done.each tenant (let within = slice_get_within share.hosts.items tenant host there in omega arith) host before after there

module _ {N : Type 0} {G : Ghosts N} (share : ShareHost N) (was now : Caller N G) (is_was : IsCaller share was) (is_now : IsCaller share now) where
  -- a pass of a caller is of the tenant's host, and was another pass of the caller there
  pub record IsThereSince (tenant : ℕ) (pass : TenantPass N G) : Type 0 where
    pub host : Host N
    pub of_tenant : IsHostOf share tenant host
    pub before : TenantPass N G
    pub there : slice_get was.passes.items tenant ≡ Some before

  pub there_since : (tenant : ℕ) (pass : TenantPass N G) → slice_get now.passes.items tenant ≡ Some pass → IsThereSince tenant pass
  there_since tenant pass there =
      let own = is_now.each tenant pass there in
      let of_tenant : IsHostOf share tenant own.1.host = subst (λ (t : ℕ). IsHostOf share t own.1.host) own.0 own.1.there in
      let found = has_pass share was is_was tenant (slice_get_within share.hosts.items tenant own.1.host of_tenant) in
      record { host = own.1.host; of_tenant = of_tenant; before = found.0; there = found.1 }

  -- a caller knows what it retired, and what it knew before
  module _ (m : Named) (retired : RetiredForAll share m was now) where
    pub knows_retired : CallerKnows m.tag now
    knows_retired = λ tenant pass there.
        let since = there_since tenant pass there in (retired tenant since.host since.before pass since.of_tenant since.there there).known

    pub still_knows_others : (tag : ℕ) → CallerKnows tag was → CallerKnows tag now
    still_knows_others tag knew = λ tenant pass there.
        let since = there_since tenant pass there in
        let bit = (retired tenant since.host since.before pass since.of_tenant since.there there).bit in
        still_knows tag since.before.pass.retired pass.pass.retired _ bit.same bit.step (knew tenant since.before since.there)
