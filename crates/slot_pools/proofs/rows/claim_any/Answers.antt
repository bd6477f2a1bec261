use Rattle.std.proofs.Common.{rules, arith}
use Rattle.slot_words.specs.Rows.{IsLost}
use Rattle.slot_words.proofs.Parts.{one_number_more}
use Rattle.slot_pools.proofs.WonRows.{won_at_number}
use Rattle.slot_pools.proofs.rows.claim_any.Goals as goal

pub loop-n-preserved : goal.loop-n-preserved
loop-n-preserved g c = let h = c.in_default.ensures.held in record {
  same = search rules;
  idle = h.0;
  another = λ _. let few = c.in_default.ensures.another in let same = c.loop-n.invariant.same.share_is in omega arith;
  trail = one_number_more IsLost c.loop-n.n _ _ _ c.loop-n.invariant.trail h.1;
}

pub returns-in-Ok-clause-trail : goal.returns-in-Ok-clause-trail
returns-in-Ok-clause-trail g c = let e = c.in-Ok.ensures in
    won_at_number _ c.loop-n.n _ _ _ _ _ (omega arith) e.number c.loop-n.invariant.trail e.trail
