use Rattle.std.proofs.Common.{◌-◌, ◌≤◌, length}
use Rattle.std.specs.List.{All}
use Rattle.job_queue.specs.RunPasses.{run_room}
use Rattle.pool_host.specs.Hosts.{IsHostPass}
use Rattle.slice_workers.specs.Crews.{HasIdle}
use Rattle.slice_workers.proofs.crew.put_passes.Given as goal

abbrev pub invariant-loop-pass : goal.invariant-loop-pass
invariant-loop-pass g l = record {
  idle : HasIdle l.queue (length l.initial.passes.items - length l.passes.items) l.first;
  less : length l.passes.items ≤ length l.initial.passes.items;
  room : length l.passes.items ≤ run_room l.first;
  passes : All (IsHostPass l.shared.host) l.passes.items;
}

abbrev pub decreases-loop-pass : goal.decreases-loop-pass
decreases-loop-pass g l = length l.passes.items
