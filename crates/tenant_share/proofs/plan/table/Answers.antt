use Rattle.std.proofs.Common.{rules}
use Rattle.std.proofs.lemmas.Slice.{overwrites}
use Rattle.tenant_share.proofs.plan.table.Goals as goal

pub returns : goal.returns
returns c = search (rules, overwrites)
