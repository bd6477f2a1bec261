use Rattle.std.proofs.Common.{Some, None, leb}
use Rattle.affinity_index.proofs.Leasts.{first_of_order}
use Rattle.affinity_index.proofs.least.first_in_order.Goals as goal

pub returns-in-Some-clause-first : goal.returns-in-Some-clause-first
returns-in-Some-clause-first c = λ order is. first_of_order c.args.seen.now c.args.tag (leb c.args.limit c.args.warm) order is (Some c.in-Some.entry) c.in-Some.ensures

pub returns-in-None-clause-first : goal.returns-in-None-clause-first
returns-in-None-clause-first c = λ order is. first_of_order c.args.seen.now c.args.tag (leb c.args.limit c.args.warm) order is None c.in-None.ensures
