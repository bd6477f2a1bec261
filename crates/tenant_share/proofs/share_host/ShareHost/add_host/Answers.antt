use Rattle.std.proofs.Common.{◌≡◌, ◌∙◌, sym, subst, rules}
use Rattle.std.proofs.lemmas.Option.{same_Some}
use Rattle.pool_limits.specs.declared.share.Share.{Share}
use Rattle.pool_limits.specs.declared.wants.Want.{Want}
use Rattle.pool_host.specs.Hosts.{HasShare}
use Rattle.tenant_share.specs.Tenants.{tenants_of}
use Rattle.tenant_share.proofs.share_host.ShareHost.add_host.Goals as goal

pub returns : goal.returns
returns g c =
    let host = c.in_ok-host.host in
    let planned = c.share-warm in
    let next : tenants_of c.args.self.now ≡ c.len-tenant.result = search rules in record {
      host = host;
      hosts_are = rw c.reserve.ensures.items at c.push_reserved.ensures.items;
      has = λ want at.
          let there = rw next at at in
          let want_is : planned.result ≡ want = same_Some planned.result want (sym planned.ensures.share ∙ there) in
          subst (λ (s : Share). HasShare want.warm s host) (c.planned_share-share.ensures.slots want there)
          (subst (λ (w : Want). HasShare w.warm c.planned_share-share.result host) want_is c.in_ok-host.ensures.share);
      out = c.in_ok-host.ensures.out;
      many = c.in_ok-host.ensures.count;
      new = c.in_ok-host.ensures.passes;
    }
