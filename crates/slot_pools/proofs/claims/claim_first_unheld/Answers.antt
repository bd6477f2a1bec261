use Rattle.std.proofs.Common.{◌<◌, length, rules, arith}
use Rattle.slot_pools.proofs.UnheldRows.{unheld_lost, unheld_won}
use Rattle.slot_pools.proofs.claims.claim_first_unheld.Goals as goal

pub loop-n-preserved : goal.loop-n-preserved
loop-n-preserved g c =
    let seen = c.args.seen.now in let n = c.loop-n.n in let e = c.in_default.ensures in
    let within : n < length seen = omega arith in record {
      same = search rules;
      idle = e.idle;
      trail = unheld_lost seen n _ _ _ within c.loop-n.invariant.trail e.held;
    }

pub returns-in-Ok-clause-trail : goal.returns-in-Ok-clause-trail
returns-in-Ok-clause-trail g c =
    let seen = c.args.seen.now in let n = c.loop-n.n in let e = c.in-Ok.ensures in let l = c.in-Ok.lease in
    let within : n < length seen = omega arith in
    unheld_won seen n l.number l.word _ _ _ within e.number.1 e.number.0 c.loop-n.invariant.trail e.trail
