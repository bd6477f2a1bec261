use Rattle.std.proofs.Common.{◌≡◌, length, vec_len}
use Rattle.std.specs.List.{All}
use Rattle.tenant_share.specs.Opening.{IsFresh}
use Rattle.tenant_share.specs.Tenants.{tenants_of, HaveShares}
use Rattle.tenant_share.proofs.share_host.ShareHost.open_for.Given as goal

abbrev pub invariant-loop : goal.invariant-loop
invariant-loop g l = record {
  many : tenants_of l.share ≡ l.counter;
  end_is : l.end ≡ length l.plan.1;
  shares : HaveShares l.plan.1 l.callers l.share;
  count : vec_len l.all ≡ l.callers;
  fresh : All (IsFresh l.share) l.all.items;
}
