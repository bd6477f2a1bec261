use Rattle.std.proofs.Common.{◌∙◌, sym, subst}
use Rattle.pool_limits.specs.Ranges.{AreInRange}
use Rattle.tenant_share.proofs.ShareLemmas.{is-share}
use Rattle.tenant_share.proofs.share_host.planned_share.Goals as goal

pub returns-clause-share : goal.returns-clause-share
returns-clause-share g c =
    let numbers = c.numbers-numbers in
    let plan = c.args.plan.now in
    let in_range : AreInRange plan.0 = subst AreInRange (numbers.ensures.same ∙ (c.config.ensures.name ∙ sym c.requires.plan)) numbers.ensures.in_range in
    is-share plan.0 plan.1 c.args.tenant c.share-want.result in_range c.share-want.ensures.plan c.share-want.ensures.share
