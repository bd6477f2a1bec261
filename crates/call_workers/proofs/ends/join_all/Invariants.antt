use Rattle.std.proofs.Common.{◌≡◌, ◌+◌, ◌-◌, ◌++◌, ◌≤◌, ℕ, length}
use Rattle.std.specs.List.{All}
use Rattle.tenant_share.specs.Retiring.{CallerKnows}
use Rattle.tenant_share.specs.Tenants.{IsCaller}
use Rattle.call_workers.specs.Crews.{DoneKnows, HasEnded, HasJoined, given_back}
use Rattle.call_workers.proofs.ends.join_all.Given as goal

abbrev pub invariant-loop-one : goal.invariant-loop-one
invariant-loop-one g l = record {
  fewer : length l.done.items ≤ length l.initial.done.items;
  joined : HasJoined g.N.Naming.config l.jobs l.shared.calls.items l.initial.own l.own (length l.initial.done.items - length l.done.items) l.entries.items;
  given : l.entries.items ++ given_back l.done.items ≡ given_back l.initial.done.items;
  callers : All (IsCaller l.shared.share) l.callers.items;
  back : length l.callers.items + length l.done.items ≡ length l.initial.callers.items + length l.initial.done.items;
  known : (tag : ℕ) → All (CallerKnows tag) l.initial.callers.items → All (DoneKnows tag) l.initial.done.items → All (CallerKnows tag) l.callers.items;
  knowing : (tag : ℕ) → All (DoneKnows tag) l.initial.done.items → All (DoneKnows tag) l.done.items;
  done : All (HasEnded g.N.Naming.config l.shared l.jobs) l.done.items;
}

abbrev pub decreases-loop-one : goal.decreases-loop-one
decreases-loop-one g l = length l.done.items
