use Rattle.job_queue.proofs.BalanceMoves.{joins}
use Rattle.job_queue.proofs.jobs.Jobs.join_pass.Goals as goal

pub absorb-requires-clause-rule : goal.absorb-requires-clause-rule
absorb-requires-clause-rule g c = joins _ _ _ _ c.requires.own.live
