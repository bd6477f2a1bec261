use Rattle.std.proofs.Common.{ap, arith}
use Rattle.slice_steps.specs.declared.queued.Queued.TheVariants as queued
use Rattle.slice_steps.specs.Queued.{paused_pair}
use Rattle.slice_steps.proofs.SliceLemmas.{paused_slice, slice_of_run}
use Rattle.slice_steps.proofs.steps.resume_call.Goals as goal

pub leave-requires-clause-fits : goal.leave-requires-clause-fits
leave-requires-clause-fits g c =
    (c.requires.fits _).1 (slice_of_run g.N.Naming.config c.args.shared.now.host c.args.shared.now.calls.items g.A.InSlices.slice (queued.Paused c.args.paused) (paused_pair c.args.paused) _ c.requires.paused
    (rw c.requires.at_work.slice_is at c.resume-slice.ensures.slice))

pub returns-clause-at_work : goal.returns-clause-at_work
returns-clause-at_work g c =
    let w = c.requires.at_work in
    let put = ap (λ r. r.room) c.leave.ensures.put in
    let room = w.room in record { own = w.own; place = c.leave.ensures.own; slice_is = w.slice_is; passes = w.passes; room = omega arith }

pub returns-clause-did : goal.returns-clause-did
returns-clause-did g c =
    paused_slice g.N.Naming.config c.args.shared.now.host c.args.shared.now.calls.items g.A.InSlices.slice c.args.paused _ _ _ _ _ _ c.requires.paused
    (rw c.requires.at_work.slice_is at c.resume-slice.ensures.slice) c.leave.ensures.put c.leave.ensures.entry
