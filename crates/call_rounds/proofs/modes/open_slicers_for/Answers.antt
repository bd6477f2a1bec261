use Rattle.std.proofs.Common.{◌∙◌, ap, arith, length}
use Rattle.run_books.proofs.DueLemmas.{length-dues, numbered_from}
use Rattle.call_rounds.proofs.modes.open_slicers_for.Goals as goal

pub open_slicers-requires-clause-numbered : goal.open_slicers-requires-clause-numbered
open_slicers-requires-clause-numbered g c = rw (rw c.directives.ensures.all at c.in_ok-calls.ensures) (numbered_from 1 c.args.requests.now.directives)

pub open_slicers-requires-clause-few : goal.open_slicers-requires-clause-few
open_slicers-requires-clause-few g c =
    let many = ap length (rw c.directives.ensures.all at c.in_ok-calls.ensures) ∙ length-dues 1 c.args.requests.now.directives in
    let few = c.directives.ensures.lawful.few_calls in omega arith
