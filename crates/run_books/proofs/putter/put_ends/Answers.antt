use Rattle.std.proofs.Common.{◌≡◌, ◌∙◌, Option, ap, arith, inl, refl}
use Rattle.job_queue.specs.declared.accounts.Account.{Account}
use Rattle.pool_model.specs.Contents.{Named}
use Rattle.run_books.proofs.PutLemmas.{many_put, put_none, put_then}
use Rattle.run_books.proofs.putter.put_ends.Goals as goal

pub loop-init : goal.loop-init
loop-init g c = record { own = c.requires.own; put = put_none _ }

pub put-requires-clause-own : goal.put-requires-clause-own
put-requires-clause-own g c = c.loop.invariant.own

pub put-requires-clause-putter : goal.put-requires-clause-putter
put-requires-clause-putter g c = ap (λ (a : Account (Option Named)). a.puts) c.loop.invariant.put ∙ c.requires.putter

pub put-requires-clause-room : goal.put-requires-clause-room
put-requires-clause-room g c =
    let many = many_put _ _ _ c.loop.invariant.put in
    let room = c.requires.room in
    let test = c.loop-test.true in omega arith

pub put-requires-clause-number : goal.put-requires-clause-number
put-requires-clause-number g c = inl refl

pub loop-preserved : goal.loop-preserved
loop-preserved g c = record { own = c.put.ensures.own; put = put_then _ _ _ _ c.loop.invariant.put c.put.ensures.put }

pub returns-clause-own : goal.returns-clause-own
returns-clause-own g c = c.loop.invariant.own

pub returns-clause-put : goal.returns-clause-put
returns-clause-put g c =
    let end = c.loop.auto.counter-end in
    let test = c.loop-test.false in
    let all : c.loop.counter ≡ c.args.workers = omega arith in rw (← all) c.loop.invariant.put
