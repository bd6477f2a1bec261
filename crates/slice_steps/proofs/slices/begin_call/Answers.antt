use Rattle.std.proofs.Common.{None, refl, rules, sym, arith}
use Rattle.slice_steps.specs.declared.queued.Queued.TheVariants as queued
use Rattle.slice_steps.proofs.SliceLemmas.{answered_slice}
use Rattle.slice_steps.proofs.slices.begin_call.Goals as goal

pub returns-in-None : goal.returns-in-None
returns-in-None g c = λ turns.
    rw c.in-None.is (answered_slice g.N.Naming.config c.args.shared.now.host c.args.shared.now.calls.items turns (queued.Idle c.args.pass) (c.args.number, None) _ _ _ c.answered.ensures.queued c.answered.ensures.entry
    c.requires.pass (record { number_is = refl; due = c.due_at-due.result.now; due_is = search (rules, c.due_at-due.ensures.there); answered = (refl, refl) }) refl)

pub returns-in_default : goal.returns-in_default
returns-in_default g c = rw (c.in-Some.is, sym c.due_at-due.ensures.number) c.send.ensures

pub begin-requires-clause-counted : goal.begin-requires-clause-counted
begin-requires-clause-counted g c κs within =
    let own = c.due_at-due.ensures.number in
    let counted = c.requires.counted in
    omega arith

pub returns-in-None-false : goal.returns-in-None-false
returns-in-None-false g c = rw (c.in-Some.is, sym c.due_at-due.ensures.number) c.begin.ensures
