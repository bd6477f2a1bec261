use Rattle.job_queue.proofs.RunMoves.{run_begins}
use Rattle.job_queue.proofs.run_queue.RunQueue.open.Goals as goal

pub ruled-requires-clause-rule : goal.ruled-requires-clause-rule
ruled-requires-clause-rule g c = run_begins _
