-- Tenants' hosts and passes, as one host more is opened.
use Rattle.std.proofs.Common.{◌≡◌, ℕ, ◌+◌, ◌*◌, ◌<◌, ◌∙◌, List, [], ◌∷◌, ◌++◌, length, map, reverse, slice_get, refl, sym, ap, subst, inl, inr, arith, append_assoc, length-append}
use Rattle.std.specs.List.{All}
use Rattle.std.proofs.lemmas.List.{length-map, length-reverse, reverse-append}
use Rattle.std.proofs.lemmas.List.Elements.{All-map, All-weaker}
use Rattle.std.proofs.lemmas.Nat.{same_from_place}
use Rattle.std.proofs.lemmas.Option.{none-some, same_Some, slice_get_within}
use Rattle.pool_limits.specs.declared.wants.Want.{Want}
use Rattle.retired_tags.specs.Passes.{IsNewTagPass, TagPass}
use Rattle.module_store.specs.declared.naming.Naming.{Ghosts}
use Rattle.pool_host.specs.declared.host.Host.{Host}
use Rattle.pool_host.specs.declared.passes.HostPass.{HostPass}
use Rattle.pool_host.specs.declared.passes.Passes.{Passes}
use Rattle.pool_host.specs.Hosts.{AreNewPassesOf, ArePassesOf, HandedOut, HasShare, IsNewHostPass}
use Rattle.tenant_share.specs.declared.passes.Caller.{Caller}
use Rattle.tenant_share.specs.declared.passes.TenantPass.{TenantPass}
use Rattle.tenant_share.specs.declared.share_host.ShareHost.{ShareHost}
use Rattle.tenant_share.specs.Opening.{of_tenant, AddsHost, IsEmptyCaller, IsFresh}
use Rattle.tenant_share.specs.Tenants.{wanted_share, tenants_of, AreInOrder, HaveShares, IsCaller, IsHostOf, IsNewCaller, IsNewTenantPass, IsTenantPass}
use Rattle.tenant_share.proofs.PlaceLemmas.{get-append, get-push, get_front, get_seam, option_map_some, All-at, All-reverse}

module _ {A B : Type 0} (f : A → B) where
  -- one more of what is left is put behind
  pub put_next : (all : List B) (xs ys : List A) (x : A) → xs ≡ ys ++ x ∷ [] → (all ++ f x ∷ []) ++ map f (reverse ys) ≡ all ++ map f (reverse xs)
  put_next all xs ys x last =
      append_assoc all (f x ∷ []) (map f (reverse ys)) ∙ ap (λ (zs : List A). all ++ map f zs) (sym (ap reverse last ∙ reverse-append ys (x ∷ [])))

module _ {N : Type 0} where
  -- a new pass is one of the host's
  pub new_passes : (host : Host N) (p : Passes N) → AreNewPassesOf host p → ArePassesOf host p
  new_passes host p new = record { ticket = new.ticket.own; memory = new.memory.own; table = new.table.own }

  module _ (before after : ShareHost N) (host : Host N) (hosts_are : after.hosts.items ≡ before.hosts.items ++ host ∷ []) where
    pub one_more : tenants_of after ≡ tenants_of before + 1
    one_more = ap length hosts_are ∙ length-append before.hosts.items (host ∷ [])

    pub still_there : (tenant : ℕ) (other : Host N) → IsHostOf before tenant other → IsHostOf after tenant other
    still_there tenant other there = rw hosts_are (get_front before.hosts.items (host ∷ []) tenant other there)

    pub last_there : IsHostOf after (tenants_of before) host
    last_there = rw hosts_are (get_seam before.hosts.items [] host)

  pub no_shares : (all : List Want) (passes : ℕ) (share : ShareHost N) → share.hosts.items ≡ [] → HaveShares all passes share
  no_shares all passes share none = λ tenant want host at there. absurd (none-some host (rw none at there))

module _ {N : Type 0} {G : Ghosts N} where
  pub shares_more : (all : List Want) (passes : ℕ) (before after : ShareHost N) (own : List (HostPass N G)) → AddsHost all passes before after own
      → HaveShares all passes before → HaveShares all passes after
  shares_more all passes before after own adds each = λ tenant want host at there.
      elim (get-push before.hosts.items adds.host tenant host (rw adds.hosts_are at there)) [
        | inl front ↦ each tenant want host at front
        | inr last ↦ subst (λ (h : Host N). HasShare want.warm (wanted_share want) h × HandedOut h passes) last.1
            (adds.has want (rw last.0 at at), adds.out)
      ]

  -- ---- passes of one tenant behind others

  pub new_is_own : (share : ShareHost N) (tenant : ℕ) (pass : TenantPass N G) → IsNewTenantPass share tenant pass → IsTenantPass share pass
  new_is_own share tenant pass new = record {
    host = new.host;
    there = rw new.tenant_is new.there;
    own = record { pools = new_passes new.host pass.pass.passes new.new.pools; tags = new.new.tags.own };
  }

  module _ (before after : ShareHost N) (host : Host N) (hosts_are : after.hosts.items ≡ before.hosts.items ++ host ∷ []) where
    pub still_new : (tenant : ℕ) (pass : TenantPass N G) → IsNewTenantPass before tenant pass → IsNewTenantPass after tenant pass
    still_new tenant pass new = record { tenant_is = new.tenant_is; host = new.host; there = still_there before after host hosts_are tenant new.host new.there; new = new.new }

    pub still_own : (pass : TenantPass N G) → IsTenantPass before pass → IsTenantPass after pass
    still_own pass own = record { host = own.host; there = still_there before after host hosts_are pass.tenant own.host own.there; own = own.own }

    -- the last host's passes, as the last tenant's
    pub last_new : (own : List (HostPass N G)) → All (IsNewHostPass host) own → All (IsNewTenantPass after (tenants_of before)) (map (of_tenant (tenants_of before)) (reverse own))
    last_new own new = All-map (IsNewTenantPass after (tenants_of before)) (of_tenant (tenants_of before)) (reverse own)
        (All-weaker (IsNewHostPass host) (λ (p : HostPass N G). IsNewTenantPass after (tenants_of before) (of_tenant (tenants_of before) p))
        (λ p is. record { tenant_is = refl; host = host; there = last_there before after host hosts_are; new = is }) (reverse own) (All-reverse (IsNewHostPass host) own new))

    -- a caller with a new pass of each tenant is given one of the last tenant's
    pub fresh_more : (old now : Caller N G) (pass : HostPass N G) → IsFresh before old → IsNewHostPass host pass
        → now.passes.items ≡ old.passes.items ++ of_tenant (length old.passes.items) pass ∷ [] → IsFresh after now
    fresh_more old now pass fresh new passes_are = record {
      many = let n = ap length passes_are ∙ length-append old.passes.items (of_tenant (length old.passes.items) pass ∷ []) in let m = one_more before after host hosts_are in let k = fresh.many in omega arith;
      each = λ tenant got there. elim (get-push old.passes.items (of_tenant (length old.passes.items) pass) tenant got (rw passes_are at there)) [
        | inl front ↦ still_new tenant got (fresh.each tenant got front)
        | inr last ↦ subst (IsNewTenantPass after tenant) last.1 (record {
          tenant_is = sym last.0;
          host = host;
          there = rw (last.0, fresh.many) (last_there before after host hosts_are);
          new = new;
        })
      ];
    }

  -- so many new passes of the last tenant are put behind those of the others
  pub order_more : (before after : ShareHost N) (host : Host N) (hosts_are : after.hosts.items ≡ before.hosts.items ++ host ∷ []) (passes : ℕ) (all : List (TenantPass N G)) (own : List (HostPass N G))
      → length all ≡ tenants_of before * passes → length own ≡ passes → All (IsNewHostPass host) own → AreInOrder before passes all
      → AreInOrder after passes (all ++ map (of_tenant (tenants_of before)) (reverse own))
  order_more before after host hosts_are passes all own count many new order = λ tenant i pass within at.
      let last : ℕ = tenants_of before in
      let more : List (TenantPass N G) = map (of_tenant last) (reverse own) in
      elim (get-append all more (tenant * passes + i) pass at) [
        | inl front ↦ still_new before after host hosts_are tenant pass (order tenant i pass within front)
        | inr back ↦
            let short : back.0 < passes = let l = slice_get_within more back.0 pass back.2 in omega (arith, length-map (reverse own) (of_tenant last), length-reverse own) in
            let place : tenant * passes + i ≡ last * passes + back.0 = back.1 ∙ ap (λ (n : ℕ). n + back.0) count in
            let same : tenant ≡ last = (same_from_place tenant i last back.0 passes within short place).0 in
            subst (λ (t : ℕ). IsNewTenantPass after t pass) (sym same)
            (All-at (IsNewTenantPass after last) more back.0 pass (last_new before after host hosts_are own new) back.2)
      ]

  -- ---- callers

  pub fresh_none : (share : ShareHost N) (caller : Caller N G) → share.hosts.items ≡ [] → IsEmptyCaller caller → IsFresh share caller
  fresh_none share caller none empty = record {
    many = ap length empty ∙ sym (ap length none);
    each = λ tenant pass there. absurd (none-some pass (rw empty at there));
  }

  pub fresh_caller : (share : ShareHost N) (caller : Caller N G) → IsFresh share caller → IsCaller share caller
  fresh_caller share caller fresh = record {
    many = fresh.many;
    each = λ tenant pass there. let new = fresh.each tenant pass there in (new.tenant_is, new_is_own share tenant pass new);
  }

  pub fresh_new : (share : ShareHost N) (caller : Caller N G) → IsFresh share caller → IsNewCaller share caller
  fresh_new share caller fresh = record {
    pools = λ tenant host p there at.
        let found = option_map_some (λ (pass : TenantPass N G). pass.pass.passes) (slice_get caller.passes.items tenant) p at in
        let new = fresh.each tenant found.0 found.1 in
        let host_is : new.host ≡ host = same_Some new.host host (sym new.there ∙ there) in
        subst (λ (q : Passes N). AreNewPassesOf host q) found.2 (subst (λ (h : Host N). AreNewPassesOf h found.0.pass.passes) host_is new.new.pools);
    tags = λ tenant host p there at.
        let found = option_map_some (λ (pass : TenantPass N G). pass.pass.retired) (slice_get caller.passes.items tenant) p at in
        let new = fresh.each tenant found.0 found.1 in
        let host_is : new.host ≡ host = same_Some new.host host (sym new.there ∙ there) in
        subst (λ (q : TagPass). IsNewTagPass host.retired.tags q) found.2 (subst (λ (h : Host N). IsNewTagPass h.retired.tags found.0.pass.retired) host_is new.new.tags);
  }
