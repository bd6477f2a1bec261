use Rattle.job_queue.proofs.Partings.{ArePartedFrom}
use Rattle.job_queue.proofs.jobs.Jobs.part_all.Given as goal

abbrev pub invariant-loop : goal.invariant-loop
invariant-loop g l = ArePartedFrom l.self l.initial.putter l.counter l.putter l.takers.items
