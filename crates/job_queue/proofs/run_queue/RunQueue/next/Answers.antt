use Rattle.job_queue.proofs.RunMoves.{run_takes, run_takes_learn}
use Rattle.job_queue.proofs.run_queue.RunQueue.next.Goals as goal

pub pop_as-requires-clause-rule : goal.pop_as-requires-clause-rule
pop_as-requires-clause-rule g c = (run_takes _ _ _ c.requires.live, run_takes_learn _ _ _ c.requires.live)
