use Rattle.std.proofs.Common.{◌≡◌, rules}
use Rattle.std.specs.Prelude.{Ok, None}
use Rattle.std.proofs.lemmas.Result.{IfOk-at_ok}
use Rattle.pool_limits.specs.Plans.{plan_fault}
use Rattle.request_words.specs.Words.{text_lines}
use Rattle.request_text.specs.Text.{Asked, requests_of}
use Rattle.request_text.proofs.PlanLemmas.{accepted_plan}
use Rattle.request_text.proofs.SliceLemmas.{AreInSlices, lines_in_slices}
use Rattle.request_text.proofs.parser.parse.Goals as goal

pub returns-clause-plan : goal.returns-clause-plan
unfolding requests_of
returns-clause-plan c plan =
    let n = c.args.config.now in
    let read : requests_of n c.args.text.now ≡ Ok c.requests.result = search rules in
    IfOk-at_ok (λ (asked : Asked). plan_fault n asked.wants ≡ None) read (accepted_plan n c.args.text.now plan)

pub requests-requires : goal.requests-requires
requests-requires c = IfOk-at_ok AreInSlices c.in_ok-reading.ensures.read (lines_in_slices c.args.config.now (text_lines c.args.text.now))
