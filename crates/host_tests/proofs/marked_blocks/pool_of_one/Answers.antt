use Rattle.std.proofs.lemmas.List.Elements.{All-pop}
use Rattle.slot_words.specs.Owned.{IsNewPassOf}
use Rattle.host_tests.proofs.marked_blocks.pool_of_one.Goals as goal

pub returns : goal.returns
returns g c =
    let opened = (rw c.expect-pool.ensures at c.open.ensures.passes).1 in
    let one = All-pop (IsNewPassOf c.expect-pool.result.0) _ _ _ c.pop.ensures.items opened in
    rw c.unwrap-pass.ensures at one.1
