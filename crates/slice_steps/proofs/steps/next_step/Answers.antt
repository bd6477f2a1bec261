use Rattle.std.proofs.Common.{◌∙◌, ap, arith}
use Rattle.job_queue.specs.Passes.{account_of}
use Rattle.job_queue.proofs.NumberLemmas.{numbers_from_1}
use Rattle.slice_steps.proofs.SliceLemmas.{told_to_end, took_call, took_no_call}
use Rattle.slice_steps.proofs.steps.next_step.Goals as goal

pub go_on-requires-clause-at_work : goal.go_on-requires-clause-at_work
go_on-requires-clause-at_work g c κs within =
    let w = c.requires.at_work in record { own = c.next_call.ensures.own; place = w.place; slice_is = w.slice_is; passes = w.passes; room = w.room }

pub begin_when_free-requires-clause-at_work : goal.begin_when_free-requires-clause-at_work
begin_when_free-requires-clause-at_work g c κs within =
    let w = c.requires.at_work in record { own = c.next_call.ensures.own; place = w.place; slice_is = w.slice_is; passes = w.passes; room = w.room }

pub returns-then-number-eq0-clause-at_work : goal.returns-then-number-eq0-clause-at_work
returns-then-number-eq0-clause-at_work g c =
    let w = c.requires.at_work in record { own = c.next_call.ensures.own; place = w.place; slice_is = w.slice_is; passes = w.passes; room = w.room }

pub returns-in-None-clause-did : goal.returns-in-None-clause-did
returns-in-None-clause-did g c =
    took_no_call g.N.Naming.config c.args.shared.now.host c.args.shared.now.calls.items g.A.InSlices.slice _ _ _ _ _ _ _ (ap account_of c.go_on.ensures.own ∙ c.in-None.ensures.none) c.go_on.ensures.never_ends c.go_on.ensures.did

pub returns-then-number-eq0-clause-did : goal.returns-then-number-eq0-clause-did
returns-then-number-eq0-clause-did g c =
    told_to_end g.N.Naming.config c.args.shared.now.host c.args.shared.now.calls.items g.A.InSlices.slice _ _ _ _ c.in-Some.call c.if-number-eq0.true c.in-Some.ensures.given

pub begin_when_free-requires-clause-enough : goal.begin_when_free-requires-clause-enough
begin_when_free-requires-clause-enough g c =
    let shared = c.args.shared.now in
    let enough = shared.enough in
    let within = (numbers_from_1 shared.jobs.terms c.in-Some.call.0 shared.first).0 c.in-Some.ensures.number in
    omega arith

pub returns-in_ok-begin_when_free-in-Some-clause-did : goal.returns-in_ok-begin_when_free-in-Some-clause-did
returns-in_ok-begin_when_free-in-Some-clause-did g c =
    let counted = c.if-number-eq0.false in
    took_call g.N.Naming.config c.args.shared.now.host c.args.shared.now.calls.items g.A.InSlices.slice _ _ _ _ _ _ c.in-Some.call (omega arith) (ap account_of c.begin_when_free.ensures.own ∙ c.in-Some.ensures.given) c.in_ok-begin_when_free-in-Some.ensures.did
