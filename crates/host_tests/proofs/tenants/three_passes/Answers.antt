use Rattle.std.proofs.lemmas.List.Elements.{All-pop}
use Rattle.tenant_share.specs.Tenants.{IsTenantPass}
use Rattle.host_tests.proofs.tenants.three_passes.Goals as goal

pub returns-clause-own : goal.returns-clause-own
returns-clause-own g c =
    let opened = rw c.expect-share.ensures at c.open.ensures.passes in
    let one = All-pop (IsTenantPass c.expect-share.result.0) _ _ _ c.pop.ensures.items opened in
    let two = All-pop (IsTenantPass c.expect-share.result.0) _ _ _ c.pop-2.ensures.items one.0 in
    (rw c.unwrap-one.ensures at one.1, rw c.unwrap-two.ensures at two.1)

pub returns-clause-other : goal.returns-clause-other
returns-clause-other g c =
    let opened = rw c.expect-share.ensures at c.open.ensures.passes in
    let one = All-pop (IsTenantPass c.expect-share.result.0) _ _ _ c.pop.ensures.items opened in
    let two = All-pop (IsTenantPass c.expect-share.result.0) _ _ _ c.pop-2.ensures.items one.0 in
    let other = All-pop (IsTenantPass c.expect-share.result.0) _ _ _ c.pop-3.ensures.items two.0 in
    rw c.unwrap-other.ensures at other.1
