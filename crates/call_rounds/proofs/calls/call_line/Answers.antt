use Rattle.std.proofs.Common.{◌∙◌, List, ℕ, ap}
use Rattle.std.specs.Prelude.{Option}
use Rattle.retired_tags.specs.Passes.{steps}
use Rattle.tenant_share.proofs.RetiringLemmas.{still_knows}
use Rattle.instance_calls.specs.CallWords.{run_limits}
use Rattle.pool_host.specs.CallWords.{IsAnswer}
use Rattle.request_calls.specs.Invocations.{shown_of}
use Rattle.request_calls.proofs.InvocationLemmas.{asked_so}
use Rattle.run_books.specs.Put.{module_of}
use Rattle.run_books.specs.Collected.{answer_line}
use Rattle.run_books.specs.Lines.{limits_in}
use Rattle.run_books.proofs.CallLemmas.{accepted_call, refused_call, retired_call}
use Rattle.call_rounds.proofs.LaneLemmas.{not_retired}
use Rattle.call_rounds.proofs.calls.call_line.Goals as goal

pub returns-in_ok-shown-in-Ok-clause-line : goal.returns-in_ok-shown-in-Ok-clause-line
returns-in_ok-shown-in-Ok-clause-line g c = λ profile bytes h.
    let answer = asked_so (λ export args request fuel. IsAnswer c.in-Ok.module.tree (run_limits g.N.Naming.config) export args request fuel c.invoke-answer.result c.invoke-answer.new.self.pass.answer)
    c.args.asked.now c.call-call.result c.call-call.ensures c.invoke-answer.ensures.answer in
    let shown = c.in_ok-shown-in-Ok.ensures ∙ ap (λ (b : List ℕ). shown_of c.args.asked.now b) c.answer.ensures in
    let free = not_retired c.in-Ok.module.tag (steps c.args.lane.now.pass.retired) c.invoke-answer.result c.invoke-answer.ensures.own_steps (λ has. c.requires _ (ap module_of c.in-Ok.is) c.if-retired.false has) in
    rw c.if-retired.false (accepted_call (limits_in profile g.N.Naming.config) bytes _ _ _ _ _ _ c.in-Ok.is h answer free
    (c.answer_line.ensures ∙ ap (λ (s : Option (List ℕ)). answer_line c.invoke-answer.result s) shown))

pub returns-then-retired-clause-line : goal.returns-then-retired-clause-line
returns-then-retired-clause-line g c = λ profile bytes h. rw c.if-retired.true (retired_call (limits_in profile g.N.Naming.config) bytes _ _ _ c.in-Ok.is h)

pub returns-in-Err-clause-line : goal.returns-in-Err-clause-line
returns-in-Err-clause-line g c = λ profile bytes h. refused_call (limits_in profile g.N.Naming.config) bytes _ _ _ _ c.in-Err.is h

pub returns-in_ok-shown-in-Ok-clause-made : goal.returns-in_ok-shown-in-Ok-clause-made
returns-in_ok-shown-in-Ok-clause-made g c = rw c.in-Ok.is (record { answer = c.invoke-answer.result; trails = c.invoke-answer.ensures.trails; looked = c.invoke-answer.ensures.looked })

pub returns-in_ok-shown-in-Ok-clause-known : goal.returns-in_ok-shown-in-Ok-clause-known
returns-in_ok-shown-in-Ok-clause-known g c = λ tag knows. still_knows tag _ _ _ c.invoke-answer.ensures.looked.same c.invoke-answer.ensures.looked.step knows

pub returns-then-retired-clause-made : goal.returns-then-retired-clause-made
returns-then-retired-clause-made g c = rw c.in-Ok.is (record { answer = c.invoke-answer.result; trails = c.invoke-answer.ensures.trails; looked = c.invoke-answer.ensures.looked })

pub returns-then-retired-clause-known : goal.returns-then-retired-clause-known
returns-then-retired-clause-known g c = λ tag knows. still_knows tag _ _ _ c.invoke-answer.ensures.looked.same c.invoke-answer.ensures.looked.step knows

pub returns-in_err-shown-in-Ok-clause-made : goal.returns-in_err-shown-in-Ok-clause-made
returns-in_err-shown-in-Ok-clause-made g c = rw c.in-Ok.is (record { answer = c.invoke-answer.result; trails = c.invoke-answer.ensures.trails; looked = c.invoke-answer.ensures.looked })

pub returns-in_err-shown-in-Ok-clause-known : goal.returns-in_err-shown-in-Ok-clause-known
returns-in_err-shown-in-Ok-clause-known g c = λ tag knows. still_knows tag _ _ _ c.invoke-answer.ensures.looked.same c.invoke-answer.ensures.looked.step knows
