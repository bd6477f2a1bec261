use Rattle.job_queue.proofs.RunMoves.{run_joins}
use Rattle.job_queue.proofs.run_queue.RunQueue.join_pass.Goals as goal

pub absorb-requires-clause-rule : goal.absorb-requires-clause-rule
absorb-requires-clause-rule g c = run_joins _ _ _ _ _ c.requires.own.live
