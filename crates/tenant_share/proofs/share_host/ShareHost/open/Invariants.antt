use Rattle.std.proofs.Common.{◌≡◌, ◌*◌, length, vec_len}
use Rattle.std.specs.List.{All}
use Rattle.tenant_share.specs.Tenants.{tenants_of, AreInOrder, HaveShares, IsTenantPass}
use Rattle.tenant_share.proofs.share_host.ShareHost.open.Given as goal

abbrev pub invariant-loop-tenant : goal.invariant-loop-tenant
invariant-loop-tenant g l = record {
  many : tenants_of l.share ≡ l.tenant;
  end_is : l.tenant-end ≡ length l.plan.1;
  shares : HaveShares l.plan.1 l.passes l.share;
  count : vec_len l.all ≡ l.tenant * l.passes;
  own : All (IsTenantPass l.share) l.all.items;
  order : AreInOrder l.share l.passes l.all.items;
}
