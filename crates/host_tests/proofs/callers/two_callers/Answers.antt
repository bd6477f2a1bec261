use Rattle.std.proofs.lemmas.List.Elements.{All-pop}
use Rattle.pool_host.specs.Hosts.{IsHostPass}
use Rattle.host_tests.proofs.callers.two_callers.Goals as goal

pub returns : goal.returns
returns g c =
    let opened = rw c.expect-host.ensures at c.open.ensures.own in
    let one = All-pop (IsHostPass c.expect-host.result.0) _ _ _ c.pop.ensures.items opened in
    let two = All-pop (IsHostPass c.expect-host.result.0) _ _ _ c.pop-2.ensures.items one.0 in
    (rw c.unwrap-first.ensures at one.1, rw c.unwrap-second.ensures at two.1)
