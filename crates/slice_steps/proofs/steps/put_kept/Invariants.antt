use Rattle.std.proofs.Common.{◌≡◌, ◌+◌, ◌≤◌, [], length}
use Rattle.std.specs.List.{All}
use Rattle.job_queue.specs.RunPasses.{IsRunPass, run_account_of, run_room}
use Rattle.pool_host.specs.Hosts.{IsHostPass}
use Rattle.slice_steps.specs.Slices.{WorkedOn}
use Rattle.slice_steps.proofs.steps.put_kept.Given as goal

abbrev pub invariant-loop-pass : goal.invariant-loop-pass
invariant-loop-pass g l = record {
  place : IsRunPass l.queue l.place;
  passes : All (IsHostPass l.shared.host) l.passes.items;
  enough : length l.passes.items ≤ run_room l.place;
  room : run_room l.place + length l.initial.passes.items ≡ run_room l.initial.place + length l.passes.items;
  put : WorkedOn g.N.Naming.config l.shared.host l.shared.calls.items g.A.InSlices.slice [] (run_account_of l.initial.place) (run_account_of l.place) [];
}

abbrev pub decreases-loop-pass : goal.decreases-loop-pass
decreases-loop-pass g l = length l.passes.items
