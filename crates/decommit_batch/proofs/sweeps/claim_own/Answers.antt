use Rattle.std.proofs.Common.{arith, ◌∙◌, sym}
use Rattle.std.proofs.lemmas.Grind.{common_steps}
use Rattle.decommit_batch.proofs.SweepLemmas.{lost_cleans_none}
use Rattle.decommit_batch.proofs.TriedNumbers.{cleans_no_other}
use Rattle.decommit_batch.proofs.sweeps.claim_own.Goals as goal

pub returns-in_default-clause-trail : goal.returns-in_default-clause-trail
returns-in_default-clause-trail g c = let lost = c.in_default.ensures.held.1 in
    record { done = lost.done; grown = lost.grown; is = lost_cleans_none c.args.tag c.args.n lost.done lost.is }

pub returns-else-is_of_module-clause-trail : goal.returns-else-is_of_module-clause-trail
returns-else-is_of_module-clause-trail g c =
    let won = c.in-Ok.ensures.won in
    let left = (c.unpack.ensures.said won.word (rw c.word.ensures won.is_word)).0 in
    cleans_no_other _ c.args.n _ won.word _ _ _ _ won.is_word won.free c.in-Ok.ensures.number left c.in-Ok.ensures.trail c.args.tag (sym c.is_of_module.ensures ∙ c.if-is_of_module.false) c.release.ensures.trail

pub returns-then-is_of_module-clause-trail : goal.returns-then-is_of_module-clause-trail
returns-then-is_of_module-clause-trail g c = grind (arith, common_steps)
