use Rattle.std.proofs.Common.{◌≡◌, ℕ}
use Rattle.tenant_share.specs.Tenants.{answer_of, tenants_of, IsCaller}
use Rattle.tenant_share.proofs.RetiringLemmas.{RetiredUpTo}
use Rattle.tenant_share.proofs.share_host.ShareHost.retire_for_all.Given as goal

abbrev pub invariant-loop-tenant : goal.invariant-loop-tenant
invariant-loop-tenant g l = record {
  own : IsCaller l.self l.caller;
  end_is : l.tenant-end ≡ tenants_of l.self;
  retired : RetiredUpTo l.self l.module l.tenant l.fn.caller l.caller;
  bytes : (t : ℕ) → answer_of l.caller t ≡ answer_of l.fn.caller t;
}
