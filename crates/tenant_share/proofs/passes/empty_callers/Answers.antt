use Rattle.std.proofs.Common.{arith, ap, length, ◌∙◌}
use Rattle.std.proofs.lemmas.List.Elements.{All-push}
use Rattle.tenant_share.specs.Opening.{IsEmptyCaller}
use Rattle.tenant_share.proofs.passes.empty_callers.Goals as goal

pub loop-preserved : goal.loop-preserved
loop-preserved g c =
    let i = c.loop.invariant in
    let many = i.many in
    let room = i.room in
    let longer = c.push_reserved.ensures.len in
    let capacity = c.push_reserved.ensures.capacity in record {
      many = omega arith;
      room = omega arith;
      empty = rw c.push_reserved.ensures.items (All-push IsEmptyCaller c.loop.all.items _ i.empty c.new-passes.ensures.items);
    }

pub returns-clause-empty : goal.returns-clause-empty
returns-clause-empty g c = c.loop.invariant.empty
