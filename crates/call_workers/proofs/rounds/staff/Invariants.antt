use Rattle.std.proofs.Common.{◌≡◌, ◌+◌, ◌≤◌, ℕ, length, vec_capacity}
use Rattle.std.specs.List.{All}
use Rattle.job_queue.specs.Passes.{IsNewTakerOf}
use Rattle.tenant_share.specs.Retiring.{CallerKnows}
use Rattle.tenant_share.specs.Tenants.{IsCaller}
use Rattle.call_workers.specs.Crews.{IsNewWorker, StillKnow, WorkerKnows}
use Rattle.call_workers.proofs.rounds.staff.Given as goal

abbrev pub invariant-loop-own : goal.invariant-loop-own
invariant-loop-own g l = record {
  takers : All (IsNewTakerOf l.jobs) l.takers.items;
  callers : All (IsCaller l.shared.share) l.callers.items;
  enough : length l.takers.items ≤ length l.callers.items;
  count : length l.workers.items + length l.takers.items ≡ length l.initial.takers.items;
  rest : length l.callers.items + length l.workers.items ≡ length l.initial.callers.items;
  room : length l.initial.takers.items ≤ vec_capacity l.workers;
  still : StillKnow l.initial.callers.items l.callers.items;
  known : (tag : ℕ) → All (CallerKnows tag) l.initial.callers.items → All (WorkerKnows tag) l.workers.items;
  workers : All (IsNewWorker l.shared.share l.jobs) l.workers.items;
}

abbrev pub decreases-loop-own : goal.decreases-loop-own
decreases-loop-own g l = length l.takers.items
