use Rattle.job_queue.proofs.BalanceMoves.{begins}
use Rattle.job_queue.proofs.jobs.Jobs.open.Goals as goal

pub ruled-requires-clause-rule : goal.ruled-requires-clause-rule
ruled-requires-clause-rule g c = begins
