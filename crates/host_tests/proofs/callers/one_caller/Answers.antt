use Rattle.std.proofs.lemmas.List.Elements.{All-pop}
use Rattle.pool_host.specs.Hosts.{IsHostPass}
use Rattle.host_tests.proofs.callers.one_caller.Goals as goal

pub returns : goal.returns
returns g c =
    let opened = rw c.expect-host.ensures at c.open.ensures.own in
    let one = All-pop (IsHostPass c.expect-host.result.0) _ _ _ c.pop.ensures.items opened in
    rw c.unwrap-pass.ensures at one.1
