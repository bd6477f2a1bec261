use Rattle.slice_steps.specs.Slices.{HandDid, IsAtWork}
use Rattle.slice_steps.proofs.work_loop.work_until_end.Given as goal

abbrev pub invariant-loop : goal.invariant-loop
invariant-loop g l = record {
  at_work : IsAtWork l.queue l.shared g.A.InSlices.slice 0 l.worker l.hand;
  did : HandDid g.N.Naming.config l.shared g.A.InSlices.slice 0 l.initial.worker l.worker l.initial.hand l.hand;
}
