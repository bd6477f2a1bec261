use Rattle.std.proofs.Common.{arith, refl}
use Rattle.slice_steps.specs.declared.queued.Queued.TheVariants as queued
use Rattle.slice_steps.specs.Queued.{paused_pair}
use Rattle.slice_steps.proofs.SliceLemmas.{again_slice, answered_slice, ended_entry}
use Rattle.slice_steps.proofs.slices.resume.Goals as goal

pub overflow_cast-number : goal.overflow_cast-number
overflow_cast-number g c =
    let number = c.number-number.ensures in
    let small = c.requires.paused.call.small.0 in
    omega arith

pub returns-in-Again-clause-slice : goal.returns-in-Again-clause-slice
returns-in-Again-clause-slice g c = again_slice g.N.Naming.config c.args.shared.now.host c.args.shared.now.calls.items c.args.slice c.args.paused c.in-Again.paused c.requires.paused c.in-Again.ensures

pub returns-in-Again-clause-over : goal.returns-in-Again-clause-over
returns-in-Again-clause-over g c = λ long.
    let waits = c.in-Again.ensures.more.waits.more in
    let small = c.requires.paused.call.small.1 in
    absurd (omega arith)

pub returns-in-Done-clause-slice : goal.returns-in-Done-clause-slice
returns-in-Done-clause-slice g c =
    let entry = rw c.number-number.ensures at c.answered.ensures.entry in
    answered_slice g.N.Naming.config c.args.shared.now.host c.args.shared.now.calls.items c.args.slice (queued.Paused c.args.paused) (paused_pair c.args.paused) _ _ _ c.answered.ensures.queued entry
    c.in-Done.ensures.back.own (ended_entry g.N.Naming.config c.args.shared.now.host c.args.shared.now.calls.items c.args.slice c.args.paused _ _ c.requires.paused c.in-Done.ensures)
    (refl, c.in-Done.ensures)
