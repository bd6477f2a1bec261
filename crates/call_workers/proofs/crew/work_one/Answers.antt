use Rattle.job_queue.specs.Passes.{account_of}
use Rattle.call_workers.proofs.CrewLemmas.{has_taken, has_worked}
use Rattle.call_workers.proofs.crew.work_one.Goals as goal

pub returns : goal.returns
returns g c =
    let new = c.requires.worker in
    let worked = has_worked g.N.Naming.config c.args.shared.now c.args.jobs.now c.args.worker.caller (record { caller = c.work-made.new.caller; own = c.work-made.new.own }) (account_of c.args.worker.own) c.work-made.result new.own.account_is (rw c.deref.ensures.value at c.work-made.ensures.made) in record {
      ended = record {
        caller = c.work-made.ensures.caller;
        own = c.work-made.ensures.own;
        taken = has_taken g.N.Naming.config c.args.shared.now c.args.jobs.now c.args.worker.caller (record { caller = c.work-made.new.caller; own = c.work-made.new.own }) c.work-made.result worked;
      };
      made = worked;
    }
