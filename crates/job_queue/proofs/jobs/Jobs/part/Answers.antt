use Rattle.job_queue.proofs.BalanceMoves.{parts}
use Rattle.job_queue.proofs.jobs.Jobs.part.Goals as goal

pub another-requires-clause-rule : goal.another-requires-clause-rule
another-requires-clause-rule g c = parts _ _ c.requires.share
