use Rattle.std.proofs.lemmas.List.Elements.{All-pop}
use Rattle.pool_host.specs.Hosts.{IsHostPass, IsNewHostPass}
use Rattle.pool_host.proofs.lane.LaneHost.open.Goals as goal

pub invariant_of-result : goal.invariant_of-result
invariant_of-result g c =
    let opened = c.in_ok-host in
    let popped = All-pop (IsHostPass opened.host) opened.passes.items c.pop.new.self.items c.pop.result c.pop.ensures.items opened.ensures.own in
    record { own = rw c.unwrap-pass.ensures at popped.1; alone = opened.ensures.out }

pub returns-clause-new : goal.returns-clause-new
returns-clause-new g c =
    let opened = c.in_ok-host in
    let popped = All-pop (IsNewHostPass opened.host) opened.passes.items c.pop.new.self.items c.pop.result c.pop.ensures.items opened.ensures.passes in
    rw c.unwrap-pass.ensures at popped.1
