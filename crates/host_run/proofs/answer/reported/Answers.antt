use Rattle.std.proofs.Common.{subst}
use Rattle.request_text.specs.Text.{Asked}
use Rattle.host_report.specs.Made.{WereMade}
use Rattle.host_report.specs.Report.{IsReport}
use Rattle.host_run.proofs.AnswerLemmas.{written_as_due}
use Rattle.host_run.proofs.answer.reported.Goals as goal

pub returns-clause-reported : goal.returns-clause-reported
returns-clause-reported g c =
    written_as_due c.args.config c.args.summary c.args.requests c.in_ok-lines.lines.items _ c.code.ensures
    (subst (λ (asked : Asked). IsReport c.args.config asked c.in_ok-lines.lines.items) c.asked_in-asked.ensures.asked c.in_ok-lines.ensures.report)
    c.in_ok-text.ensures

pub returns-clause-made : goal.returns-clause-made
returns-clause-made g c = record {
  lines = c.in_ok-lines.lines.items;
  made = subst (λ (asked : Asked). WereMade c.args.config asked c.args.slice c.in_ok-lines.lines.items) c.asked_in-asked.ensures.asked c.in_ok-lines.ensures.made;
  text = c.in_ok-text.ensures;
}
