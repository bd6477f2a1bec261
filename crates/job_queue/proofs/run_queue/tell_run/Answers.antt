use Rattle.std.proofs.Common.{ap, arith}
use Rattle.job_queue.specs.declared.run_queue.RunTerms.{RunTerms}
use Rattle.job_queue.proofs.RunMoves.{run_tells}
use Rattle.job_queue.proofs.run_queue.tell_run.Goals as goal

pub another-requires-clause-rule : goal.another-requires-clause-rule
another-requires-clause-rule g c =
    let same = ap (λ (t : RunTerms). t.passes) c.requires.terms in
    let some = c.requires.some in run_tells _ _ _ _ c.requires.first (omega arith)
