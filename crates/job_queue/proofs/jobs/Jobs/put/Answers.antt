use Rattle.std.proofs.Common.{sym, subst}
use Rattle.job_queue.specs.declared.accounts.Terms.{Terms}
use Rattle.job_queue.specs.Accounts.{MayBePut}
use Rattle.job_queue.proofs.BalanceMoves.{puts, puts_learns}
use Rattle.job_queue.proofs.jobs.Jobs.put.Goals as goal

pub push_as-requires-clause-rule : goal.push_as-requires-clause-rule
push_as-requires-clause-rule g c =
    let number = subst (λ (t : Terms). MayBePut t c.args.number) (sym c.requires.own.terms_are) c.requires.number in
    (puts _ _ _ _ c.requires.own.live c.requires.putter number, puts_learns _ _ c.requires.putter)
