use Rattle.job_queue.specs.Passes.{IsJobPass, account_of}
use Rattle.tenant_share.specs.Tenants.{IsCaller}
use Rattle.call_workers.proofs.TakenLemmas.{IsWorking}
use Rattle.call_workers.proofs.work_loop.work.Given as goal

abbrev pub invariant-loop : goal.invariant-loop
invariant-loop g l = record {
  caller : IsCaller l.share l.caller;
  own : IsJobPass l.jobs l.own;
  working : IsWorking g.N.Naming.config l.share l.calls (account_of l.initial.own) (account_of l.own) l.initial.caller l.caller l.made.items;
}
