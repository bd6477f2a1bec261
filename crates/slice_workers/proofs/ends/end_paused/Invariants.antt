use Rattle.job_queue.specs.Passes.{share_of}
use Rattle.job_queue.specs.RunPasses.{HasAllRunPasses}
use Rattle.slice_workers.specs.Sliced.{HaveSliced}
use Rattle.slice_workers.proofs.ends.end_paused.Given as goal

abbrev pub invariant-loop : goal.invariant-loop
invariant-loop g l = record {
  whole : HasAllRunPasses l.queue l.first;
  sliced : HaveSliced g.N.Naming.config l.shared l.queue g.A.InSlices.slice l.sliced.own l.first (share_of l.initial.sliced.own) l.sliced.entries.items;
}
