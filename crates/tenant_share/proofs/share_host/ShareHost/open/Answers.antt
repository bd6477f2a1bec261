use Rattle.std.proofs.Common.{◌≡◌, ℕ, ◌+◌, ◌*◌, ◌∙◌, ◌++◌, length, map, reverse, sym, ap, subst, arith, rules, add-mul, one-mul, length-append}
use Rattle.std.proofs.lemmas.List.{length-map, length-reverse}
use Rattle.std.proofs.lemmas.List.Elements.{All-append, All-same, All-weaker}
use Rattle.tenant_share.specs.Opening.{of_tenant}
use Rattle.tenant_share.specs.Tenants.{tenants_of, AreInOrder, IsNewTenantPass, IsTenantPass}
use Rattle.tenant_share.proofs.OpeningLemmas.{last_new, new_is_own, one_more, order_more, shares_more, still_own}
use Rattle.tenant_share.proofs.share_host.ShareHost.open.Goals as goal

pub loop-tenant-preserved : goal.loop-tenant-preserved
loop-tenant-preserved g c =
    let i = c.loop-tenant.invariant in
    let adds = c.in_ok-own.ensures in
    let passes = c.args.passes in
    let before = c.loop-tenant.share in
    let after = c.add_host.new.self in
    let all = c.loop-tenant.all.items in
    let own = c.in_ok-own.own.items in
    let more = map (of_tenant (tenants_of before)) (reverse own) in
    let put : c.put_all.new.all.items ≡ all ++ more = subst (λ (t : ℕ). c.put_all.new.all.items ≡ all ++ map (of_tenant t) (reverse own)) (sym i.many) c.in_ok-put_all.ensures in
    let count : length all ≡ tenants_of before * passes = rw i.many (search rules) in
    let many : length more ≡ passes = length-map (reverse own) (of_tenant (tenants_of before)) ∙ (length-reverse own ∙ adds.many) in
    let row : (c.loop-tenant.tenant + 1) * passes ≡ c.loop-tenant.tenant * passes + passes = add-mul c.loop-tenant.tenant 1 passes ∙ ap (λ (n : ℕ). c.loop-tenant.tenant * passes + n) (one-mul passes) in
    let longer : length c.put_all.new.all.items ≡ length all + passes = ap length put ∙ (length-append all more ∙ ap (λ (n : ℕ). length all + n) many) in
    record {
      many = one_more before after adds.host adds.hosts_are ∙ ap (λ (n : ℕ). n + 1) i.many;
      end_is = i.end_is;
      shares = shares_more c.args.plan.now.1 passes before after own adds i.shares;
      count = omega arith;
      own = All-same (IsTenantPass after) c.put_all.new.all.items (all ++ more) put (All-append (IsTenantPass after) all more
          (All-weaker (IsTenantPass before) (IsTenantPass after) (still_own before after adds.host adds.hosts_are) all i.own)
          (All-weaker (IsNewTenantPass after (tenants_of before)) (IsTenantPass after) (new_is_own after (tenants_of before)) more (last_new before after adds.host adds.hosts_are own adds.new)));
      order = subst (AreInOrder after passes) (sym put) (order_more before after adds.host adds.hosts_are passes all own count adds.many adds.new i.order);
    }

pub add_host-requires-clause-tenant : goal.add_host-requires-clause-tenant
add_host-requires-clause-tenant g c =
    let many = c.loop-tenant.invariant.many in
    let end = c.loop-tenant.invariant.end_is in
    let test = c.loop-tenant-test.true in omega arith

pub returns-clause-passes : goal.returns-clause-passes
returns-clause-passes g c = c.loop-tenant.invariant.own

pub returns-clause-order : goal.returns-clause-order
returns-clause-order g c = c.loop-tenant.invariant.order

pub returns-clause-shares : goal.returns-clause-shares
returns-clause-shares g c =
    let i = c.loop-tenant.invariant in
    let many = i.many in
    let end = i.end_is in
    let past = c.loop-tenant-test.false in
    let last = c.loop-tenant.auto.tenant-end in record { many = omega arith; each = i.shares }
