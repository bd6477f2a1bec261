use Rattle.std.proofs.lemmas.List.Elements.{All-pop}
use Rattle.pool_host.specs.Hosts.{IsHostPass}
use Rattle.embedding.proofs.on_host.Goals as goal

pub both-requires-clause-one : goal.both-requires-clause-one
both-requires-clause-one g c κs within =
    let first = All-pop (IsHostPass c.in_ok-host.host) _ _ _ c.pop.ensures.items c.in_ok-host.ensures.own in
    rw c.unwrap-one.ensures at first.1

pub both-requires-clause-two : goal.both-requires-clause-two
both-requires-clause-two g c κs within =
    let first = All-pop (IsHostPass c.in_ok-host.host) _ _ _ c.pop.ensures.items c.in_ok-host.ensures.own in
    let second = All-pop (IsHostPass c.in_ok-host.host) _ _ _ c.pop-2.ensures.items first.0 in
    rw c.unwrap-two.ensures at second.1
