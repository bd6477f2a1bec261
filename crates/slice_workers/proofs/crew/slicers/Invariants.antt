use Rattle.std.proofs.Common.{◌≡◌, ◌+◌, false, length}
use Rattle.std.specs.List.{All}
use Rattle.job_queue.specs.Passes.{IsNewPassOf}
use Rattle.job_queue.specs.RunPasses.{IsNewRunPass}
use Rattle.slice_workers.specs.Crews.{IsNewSlicer}
use Rattle.slice_workers.proofs.crew.slicers.Given as goal

abbrev pub invariant-loop-place : goal.invariant-loop-place
invariant-loop-place g l = record {
  places : All (IsNewRunPass l.queue) l.places.items;
  owns : All (IsNewPassOf false l.shared.jobs) l.takers.items;
  many : length l.places.items ≡ length l.takers.items;
  count : length l.workers.items + length l.takers.items ≡ length l.initial.takers.items;
  workers : All (IsNewSlicer l.queue g.A.Admits.fits l.shared g.A.InSlices.slice) l.workers.items;
}

abbrev pub decreases-loop-place : goal.decreases-loop-place
decreases-loop-place g l = length l.places.items
