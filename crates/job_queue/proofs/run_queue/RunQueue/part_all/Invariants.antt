use Rattle.job_queue.proofs.RunPartings.{AreRunsPartedFrom}
use Rattle.job_queue.proofs.run_queue.RunQueue.part_all.Given as goal

abbrev pub invariant-loop : goal.invariant-loop
invariant-loop g l = AreRunsPartedFrom l.self l.initial.first l.counter l.first l.passes.items
