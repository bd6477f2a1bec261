use Rattle.std.specs.List.{All}
use Rattle.tenant_share.specs.Retiring.{RetiredForAll}
use Rattle.tenant_share.specs.Tenants.{IsCaller}
use Rattle.call_workers.proofs.ChangeLemmas.{ChangedUpTo}
use Rattle.call_workers.proofs.retirement.retire_for_each.Given as goal

abbrev pub invariant-loop-caller : goal.invariant-loop-caller
invariant-loop-caller g l = record {
  callers : All (IsCaller l.shared.share) l.caller-items;
  retired : ChangedUpTo (RetiredForAll l.shared.share l.module) l.caller-index l.fn.callers.items l.caller-items;
}
