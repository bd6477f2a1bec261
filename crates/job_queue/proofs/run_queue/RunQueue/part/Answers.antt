use Rattle.job_queue.proofs.RunMoves.{run_parts}
use Rattle.job_queue.proofs.run_queue.RunQueue.part.Goals as goal

pub another-requires-clause-rule : goal.another-requires-clause-rule
another-requires-clause-rule g c = run_parts _ _ _ c.requires.share
