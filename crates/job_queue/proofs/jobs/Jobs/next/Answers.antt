use Rattle.job_queue.proofs.BalanceMoves.{takes, takes_learns}
use Rattle.job_queue.proofs.jobs.Jobs.next.Goals as goal

pub pop_as-requires-clause-rule : goal.pop_as-requires-clause-rule
pop_as-requires-clause-rule g c = (takes _ _ c.requires.live, takes_learns _ _ c.requires.live)
