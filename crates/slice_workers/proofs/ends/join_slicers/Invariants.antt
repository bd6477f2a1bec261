use Rattle.std.proofs.Common.{◌≡◌, ◌+◌, length}
use Rattle.std.specs.List.{All}
use Rattle.job_queue.specs.Passes.{share_of}
use Rattle.slice_workers.specs.Crews.{IsSliceDone}
use Rattle.slice_workers.specs.Sliced.{WorkersHaveSliced}
use Rattle.slice_workers.proofs.ends.join_slicers.Given as goal

abbrev pub invariant-loop-next : goal.invariant-loop-next
invariant-loop-next g l = record {
  share : share_of l.sliced.own + length l.others.items ≡ length l.initial.others.items + 1;
  joined : WorkersHaveSliced g.N.Naming.config l.shared l.queue g.A.InSlices.slice l.sliced l.first;
  others : All (IsSliceDone l.queue g.N.Naming.config l.shared g.A.InSlices.slice) l.others.items;
}

abbrev pub decreases-loop-next : goal.decreases-loop-next
decreases-loop-next g l = length l.others.items
