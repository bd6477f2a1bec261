use Rattle.std.proofs.Common.{◌∙◌, ℕ, List, [], Option, Some, ap, refl, rules}
use Rattle.std.specs.Prelude.{unwrap_or}
use Rattle.slice_steps.specs.declared.queued.Queued.TheVariants as queued
use Rattle.slice_steps.proofs.SliceLemmas.{answered_slice, begun_refused, begun_slice}
use Rattle.slice_steps.proofs.slices.begin.Goals as goal

pub begin_call-begun-requires-clause-unsent : goal.begin_call-begun-requires-clause-unsent
begin_call-begun-requires-clause-unsent g c κs within = c.call-call.ensures.request ∙ ap (λ (request : Option (List ℕ)). unwrap_or request []) c.requires.unsent

pub returns-in-NoExport : goal.returns-in-NoExport
returns-in-NoExport g c = λ turns.
    let begun = c.in-NoExport.ensures.begun in
    let refused = begun_refused g.N.Naming.config c.args.shared.now.host c.args.called.now _ _ c.args.pass c.in-NoExport.pass _ begun c.in-NoExport.ensures.looked in
    answered_slice g.N.Naming.config c.args.shared.now.host c.args.shared.now.calls.items turns (queued.Idle c.args.pass) (c.args.due.now.number, Some c.args.called.now) _ _ _
    c.answered.ensures.queued c.answered.ensures.entry begun.own (record {
      number_is = refl;
      due = c.args.due.now;
      due_is = c.requires.due;
      answered = ([], (rw c.call-call.ensures.export at begun.cause.0, refl), rw c.requires.quiet refl);
    })
    refused

pub returns-in-BadArgs : goal.returns-in-BadArgs
returns-in-BadArgs g c = λ turns.
    let begun = c.in-BadArgs.ensures.begun in
    let refused = begun_refused g.N.Naming.config c.args.shared.now.host c.args.called.now _ _ c.args.pass c.in-BadArgs.pass _ begun c.in-BadArgs.ensures.looked in
    answered_slice g.N.Naming.config c.args.shared.now.host c.args.shared.now.calls.items turns (queued.Idle c.args.pass) (c.args.due.now.number, Some c.args.called.now) _ _ _
    c.answered-in-BadArgs.ensures.queued c.answered-in-BadArgs.ensures.entry begun.own (record {
      number_is = refl;
      due = c.args.due.now;
      due_is = c.requires.due;
      answered = ([], (rw (c.call-call.ensures.export, c.call-call.ensures.args) at begun.cause.0, refl), rw c.requires.quiet refl);
    })
    refused

pub returns-in-Retired : goal.returns-in-Retired
returns-in-Retired g c = λ turns.
    let begun = c.in-Retired.ensures.begun in
    let refused = begun_refused g.N.Naming.config c.args.shared.now.host c.args.called.now _ _ c.args.pass c.in-Retired.pass _ begun c.in-Retired.ensures.looked in
    answered_slice g.N.Naming.config c.args.shared.now.host c.args.shared.now.calls.items turns (queued.Idle c.args.pass) (c.args.due.now.number, Some c.args.called.now) _ _ _
    c.answered-in-Retired.ensures.queued c.answered-in-Retired.ensures.entry begun.own (record {
      number_is = refl;
      due = c.args.due.now;
      due_is = c.requires.due;
      answered = ([], (begun.cause.0.0, rw (c.call-call.ensures.export, c.call-call.ensures.args) at begun.cause.0.1, refl), rw c.requires.quiet refl);
    })
    refused

pub returns-in-Full : goal.returns-in-Full
returns-in-Full g c = λ turns.
    let begun = c.in-Full.ensures.begun in
    let refused = begun_refused g.N.Naming.config c.args.shared.now.host c.args.called.now _ _ c.args.pass c.in-Full.pass _ begun c.in-Full.ensures.looked in
    answered_slice g.N.Naming.config c.args.shared.now.host c.args.shared.now.calls.items turns (queued.Idle c.args.pass) (c.args.due.now.number, Some c.args.called.now) _ _ _
    c.answered-in-Full.ensures.queued c.answered-in-Full.ensures.entry begun.own (record {
      number_is = refl;
      due = c.args.due.now;
      due_is = c.requires.due;
      answered = ([], (begun.cause.0.0, rw (c.call-call.ensures.export, c.call-call.ensures.args) at begun.cause.0.1, refl), rw c.requires.quiet refl);
    })
    refused

pub returns-in-Ready : goal.returns-in-Ready
returns-in-Ready g c = λ turns.
    let begun = rw (c.call-call.ensures.export, c.call-call.ensures.args, c.call-call.ensures.fuel) at c.in-Ready.ensures.begun in
    begun_slice g.N.Naming.config c.args.shared.now.host c.args.shared.now.calls.items turns c.args.called.now c.args.due.now c.args.pass c.in-Ready.paused begun c.in-Ready.ensures.looked
    c.requires.counted c.requires.due c.requires.unsent c.requires.quiet (search rules)
