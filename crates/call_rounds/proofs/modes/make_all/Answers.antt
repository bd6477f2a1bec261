use Rattle.call_rounds.proofs.modes.make_all.Goals as goal

pub returns-in_ok-run-2-clause-made : goal.returns-in_ok-run-2-clause-made
returns-in_ok-run-2-clause-made g c = c.in_ok-run-2.ensures

pub returns-in_ok-run-2-clause-books : goal.returns-in_ok-run-2-clause-books
returns-in_ok-run-2-clause-books g c = c.in_ok-run-2.ensures.books
