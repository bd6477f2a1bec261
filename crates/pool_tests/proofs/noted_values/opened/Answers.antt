use Rattle.std.proofs.lemmas.List.Elements.{All-pop}
use Rattle.slot_words.specs.Owned.{IsNewPassOf}
use Rattle.pool_tests.proofs.noted_values.opened.Goals as goal

pub returns-clause-passes : goal.returns-clause-passes
returns-clause-passes g c =
    let made = rw c.expect-words.ensures at c.open.ensures.passes in
    let count = rw c.expect-words.ensures at c.open.ensures.count in
    let one = All-pop (IsNewPassOf c.expect-words.result.0) _ _ _ c.pop.ensures.items made.1 in
    let two = All-pop (IsNewPassOf c.expect-words.result.0) _ _ _ c.pop-2.ensures.items one.0 in
    (rw c.unwrap-first.ensures at one.1, rw c.unwrap-second.ensures at two.1, count)
