use Rattle.std.proofs.Common.{Option, ap}
use Rattle.job_queue.specs.declared.accounts.Account.{Account}
use Rattle.job_queue.specs.Passes.{put_by}
use Rattle.pool_model.specs.Contents.{Named}
use Rattle.run_books.proofs.putter.put_all.Goals as goal

pub returns-clause-ends : goal.returns-clause-ends
returns-clause-ends g c = (put_by c.put_calls-put.new.putter.own, ap (λ (a : Account (Option Named)). a.put) c.put_ends.ensures.put)
