use Rattle.std.proofs.Common.{◌∙◌, ap, length, refl, sym}
use Rattle.std.proofs.lemmas.List.{length-map}
use Rattle.request_text.specs.Text.{modules_of}
use Rattle.run_books.specs.Lines.{limits_in}
use Rattle.host_report.proofs.AnswerLemmas.{all_told, lines_all}
use Rattle.host_report.proofs.laws.a_run_shows_each_call.Goals as goal

pub returns : goal.returns
returns c = λ numbers requests slice lines were.
    let limits = limits_in requests.profile were.0.config in
    let all = requests.directives in
    let run = were.2 in
    let each = lines_all limits all _ _ _ refl run.closed.lines in
    let told = all_told limits (modules_of all) all _ each in
    ap length run.shown ∙ sym (ap length told.all ∙ length-map _ _) ∙ each.many
