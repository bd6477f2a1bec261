use Rattle.std.proofs.Common.{◌∙◌, List, ℕ, ap, sym}
use Rattle.std.proofs.lemmas.Option.{same_Some}
use Rattle.request_calls.specs.Invocations.{shown_of}
use Rattle.request_calls.proofs.InvocationLemmas.{asked_so}
use Rattle.instance_calls.specs.CallWords.{run_limits}
use Rattle.pool_host.specs.CallWords.{IsHostAnswer}
use Rattle.tenant_share.specs.Tenants.{answer_of}
use Rattle.call_workers.specs.Made.{HasCalled}
use Rattle.call_workers.proofs.PassLemmas.{from_passes, same_at_host}
use Rattle.call_workers.proofs.calls.made.Goals as goal

pub returns-clause-answered : goal.returns-clause-answered
returns-clause-answered g c =
    let shown = c.in_ok-shown.ensures ∙ ap (λ (b : List ℕ). shown_of c.args.due.now.invocation b) c.answer.ensures in
    let bytes = answer_of c.invoke_for-answer.new.caller c.args.due.now.tenant in
    let answer = asked_so (λ export args request fuel. IsHostAnswer c.args.called.now.tree (run_limits g.N.Naming.config) export args request fuel c.invoke_for-answer.result bytes)
    c.args.due.now.invocation c.call-call.result c.call-call.ensures c.invoke_for-answer.ensures.answer in
    (bytes, answer, shown)

pub returns-clause-call : goal.returns-clause-call
returns-clause-call g c = λ tenant host before after there had has.
    let e = c.invoke_for-answer.ensures in
    let was = c.args.caller.now in
    let now = c.invoke_for-answer.new.caller in record {
      own = λ is. from_passes (HasCalled g.N.Naming.config host c.args.called.now c.invoke_for-answer.result) was now tenant before after had has (λ b a at_b at_a. record {
        trails = e.trails host b a (rw is there) (rw is at_b) (rw is at_a);
        full = e.full host b a (rw is there) (rw is at_b) (rw is at_a);
        looked = e.looked host b a (rw is there) (rw is at_b) (rw is at_a);
      });
      others = λ apart. same_Some after before (sym has ∙ (same_at_host was now tenant (e.others tenant (λ same. apart (sym same))) (e.tags tenant (λ same. apart (sym same))) ∙ had));
    }
