use Rattle.std.proofs.Common.{◌≡◌, [], ◌∷◌, ◌++◌, rules}
use Rattle.std.proofs.lemmas.List.{drop_all}
use Rattle.run_books.specs.Lines.{limits_in}
use Rattle.host_report.proofs.AnswerLemmas.{next_directive}
use Rattle.host_report.proofs.ReportLemmas.{has_source, lines_end, next_told, shown_end}
use Rattle.host_report.proofs.file_report.lines.Goals as goal

pub next_line-requires : goal.next_line-requires
next_line-requires g c =
    let first = next_directive _ _ _ (rw c.directives-directives.ensures.all at c.loop-directive-test.true) (rw c.directives-directives.ensures.all at c.directive-item.is) in
    has_source (limits_in c.args.requests.now.profile g.N.Naming.config) c.args.requests.now.directives _ _ _ _ _ _ _ _ first c.loop-directive.invariant

pub loop-directive-preserved : goal.loop-directive-preserved
loop-directive-preserved g c =
    let pushed : c.push.new.self.items ≡ c.loop-directive.lines.items ++ c.in_ok-line.line ∷ [] = search rules in
    let first = next_directive _ _ _ (rw c.directives-directives.ensures.all at c.loop-directive-test.true) (rw c.directives-directives.ensures.all at c.directive-item.is) in
    next_told (limits_in c.args.requests.now.profile g.N.Naming.config) c.args.requests.now.directives _ _ _ _ _ _ _ _ first c.loop-directive.invariant c.in_ok-line.line _ _ _
    (search rules) c.in_ok-line.ensures.board c.in_ok-line.ensures.counts pushed

pub returns-clause-report : goal.returns-clause-report
returns-clause-report g c =
    lines_end (limits_in c.args.requests.now.profile g.N.Naming.config) c.args.requests.now.directives _ _ _ _ _ _
    (drop_all c.loop-directive.directive-index c.args.requests.now.directives (rw c.directives-directives.ensures.all at c.loop-directive-test.false)) c.loop-directive.invariant

pub returns-clause-shown : goal.returns-clause-shown
returns-clause-shown g c =
    shown_end (limits_in c.args.requests.now.profile g.N.Naming.config) c.args.requests.now.directives _ _ _ _ _ _
    (drop_all c.loop-directive.directive-index c.args.requests.now.directives (rw c.directives-directives.ensures.all at c.loop-directive-test.false)) c.loop-directive.invariant
