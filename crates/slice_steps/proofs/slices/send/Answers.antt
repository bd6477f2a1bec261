use Rattle.std.proofs.Common.{Some, ap, refl}
use Rattle.instance_calls.specs.CallWords.{run_limits}
use Rattle.pool_host.specs.CallWords.{IsHostAnswer}
use Rattle.request_calls.specs.Invocations.{shown_of}
use Rattle.request_calls.proofs.InvocationLemmas.{asked_so}
use Rattle.slice_steps.proofs.SliceLemmas.{whole_slice}
use Rattle.slice_steps.proofs.slices.send.Goals as goal

pub returns : goal.returns
returns g c = λ turns.
    let asked = c.args.due.now.invocation in
    let answer = asked_so (λ export args request fuel. IsHostAnswer c.args.called.now.tree (run_limits g.N.Naming.config) export args request fuel c.invoke-answer.result c.invoke-answer.new.pass.answer)
    asked c.call-call.result c.call-call.ensures c.invoke-answer.ensures.answer in
    whole_slice g.N.Naming.config c.args.shared.now.host c.args.shared.now.calls.items turns c.args.pass c.args.called.now (c.args.due.now.number, Some c.args.called.now) _ _ c.invoke-answer.result _ c.entry_of-entry.ensures
    refl refl (record {
      number_is = refl;
      due = c.args.due.now;
      due_is = c.requires.due;
      answered = (c.invoke-answer.new.pass.answer, answer, ap (λ bytes. shown_of asked bytes) c.answer.ensures);
    })
    (record { own = c.invoke-answer.ensures.own; trails = c.invoke-answer.ensures.trails; full = c.invoke-answer.ensures.full; looked = c.invoke-answer.ensures.looked })
