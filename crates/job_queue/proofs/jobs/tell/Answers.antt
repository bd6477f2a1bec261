use Rattle.std.proofs.Common.{ap, arith}
use Rattle.job_queue.specs.declared.accounts.Terms.{Terms}
use Rattle.job_queue.proofs.BalanceMoves.{tells}
use Rattle.job_queue.proofs.jobs.tell.Goals as goal

pub another-requires-clause-rule : goal.another-requires-clause-rule
another-requires-clause-rule g c =
    let same = ap (λ (t : Terms). t.passes) c.requires.terms in
    let some = c.requires.some in tells _ _ _ c.requires.first (omega arith)
