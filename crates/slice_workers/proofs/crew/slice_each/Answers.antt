use Rattle.std.proofs.Common.{arith}
use Rattle.slice_workers.proofs.crew.slice_each.Goals as goal

pub returns-in-Ok-clause-done : goal.returns-in-Ok-clause-done
returns-in-Ok-clause-done g c = λ k d lt. let len = c.in-Ok.ensures.len in (c.in-Ok.ensures.each k d (omega arith)).1.call.met
