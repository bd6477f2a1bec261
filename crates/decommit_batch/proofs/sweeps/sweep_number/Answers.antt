use Rattle.std.proofs.Common.{◌≡◌, ◌∙◌, true, ap, sym}
use Rattle.pool_core.specs.StateWords.{bit, unpacked}
use Rattle.decommit_batch.specs.Sweep.{is_of_module}
use Rattle.decommit_batch.proofs.TriedNumbers.{sweeps_tried}
use Rattle.decommit_batch.proofs.sweeps.sweep_number.Goals as goal

pub returns-clause-trail : goal.returns-clause-trail
returns-clause-trail g c =
    let seen = c.unpack-held.ensures in
    let own : is_of_module c.args.tag (unpacked c.load.result).target ≡ true = ap (is_of_module c.args.tag) (sym seen.target) ∙ sym c.is_of_module.ensures ∙ c.if-not-is_of_module.false in
    sweeps_tried c.args.tag c.args.n c.load.result (bit c.claim_own.result) _ _ _ (sym seen.held ∙ c.if-held.false) own c.load.ensures.trail c.claim_own.ensures.trail
