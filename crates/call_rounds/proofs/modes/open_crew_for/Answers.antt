use Rattle.std.proofs.Common.{length}
use Rattle.run_books.proofs.DueLemmas.{numbered_from, tenants_of_dues}
use Rattle.call_rounds.proofs.modes.open_crew_for.Goals as goal

pub open_workers-requires-clause-numbered : goal.open_workers-requires-clause-numbered
open_workers-requires-clause-numbered g c = rw (rw c.directives.ensures.all at c.in_ok-calls.ensures) (numbered_from 1 c.args.requests.now.directives)

pub open_workers-requires-clause-tenants : goal.open_workers-requires-clause-tenants
open_workers-requires-clause-tenants g c =
    rw (c.wants.ensures.all, rw c.directives.ensures.all at c.in_ok-calls.ensures) (tenants_of_dues (length c.args.requests.now.wants) 1 c.args.requests.now.directives c.directives.ensures.lawful.by_tenants)
