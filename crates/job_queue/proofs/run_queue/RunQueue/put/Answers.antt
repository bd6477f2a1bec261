use Rattle.job_queue.proofs.RunMoves.{run_puts, run_puts_learn}
use Rattle.job_queue.proofs.run_queue.RunQueue.put.Goals as goal

pub push_as-requires-clause-rule : goal.push_as-requires-clause-rule
push_as-requires-clause-rule g c = (run_puts _ _ _ _ _ c.requires.own.live c.requires.room c.requires.fits, run_puts_learn _ _ _ c.requires.own.live c.requires.room)
