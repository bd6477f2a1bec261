use Rattle.std.proofs.lemmas.Result.{IfOk-weaker}
use Rattle.host_report.specs.Made.{WereMade}
use Rattle.host_report.proofs.file_report.report.Goals as goal

pub returns-clause-made : goal.returns-clause-made
returns-clause-made g c =
    IfOk-weaker c.report_in.result _ _ (λ lines made.
    let were : WereMade c.args.config c.args.requests.now c.args.slice lines.items = (c.in_ok-opened.opened, c.in_ok-opened.ensures.config, made) in were) c.report_in.ensures.made
