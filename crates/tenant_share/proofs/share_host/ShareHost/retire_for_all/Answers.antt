use Rattle.std.proofs.Common.{◌∙◌, arith}
use Rattle.tenant_share.proofs.RetiringLemmas.{all_retired, one_more_retired}
use Rattle.tenant_share.proofs.share_host.ShareHost.retire_for_all.Goals as goal

pub loop-tenant-preserved : goal.loop-tenant-preserved
loop-tenant-preserved g c = let i = c.loop-tenant.invariant in let e = c.retire_at.ensures in record {
  own = e.own;
  end_is = i.end_is;
  retired = one_more_retired c.args.self.now c.args.module.now c.loop-tenant.tenant c.args.caller.now c.loop-tenant.caller c.retire_at.new.caller i.retired e.retired;
  bytes = λ t. e.bytes t ∙ i.bytes t;
}

pub returns-clause-retired : goal.returns-clause-retired
returns-clause-retired g c = let i = c.loop-tenant.invariant in
    all_retired c.args.self.now c.args.module.now c.loop-tenant.tenant c.args.caller.now c.loop-tenant.caller (omega arith) i.retired
