use Rattle.std.proofs.Common.{ap}
use Rattle.job_queue.specs.Passes.{account_of}
use Rattle.slice_steps.proofs.SliceLemmas.{helped}
use Rattle.slice_steps.proofs.work_loop.work_keeping.Goals as goal

pub returns-clause-did : goal.returns-clause-did
returns-clause-did g c =
    helped g.N.Naming.config c.args.shared.now.host c.args.shared.now.calls.items g.A.InSlices.slice _ _ _ _ _ _ _ _ _ _ c.in_ok-work_until_end.ensures.did (ap account_of c.help.ensures.own)
    c.help.ensures.did
