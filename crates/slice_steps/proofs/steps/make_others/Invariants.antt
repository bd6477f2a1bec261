use Rattle.std.proofs.Common.{◌≡◌, ◌≤◌, [], length}
use Rattle.slice_steps.specs.Slices.{HandWorked, IsAtWork}
use Rattle.slice_steps.proofs.steps.make_others.Given as goal

abbrev pub invariant-loop : goal.invariant-loop
invariant-loop g l = record {
  at_work : IsAtWork l.queue l.shared g.A.InSlices.slice 0 l.worker l.hand;
  own : l.worker.own ≡ l.initial.worker.own;
  kept : length l.initial.hand.passes.items ≤ length l.hand.passes.items;
  did : HandWorked g.N.Naming.config l.shared g.A.InSlices.slice [] l.initial.worker l.worker l.initial.hand l.hand;
}
