use Rattle.std.proofs.Common.{refl}
use Rattle.std.proofs.lemmas.Result.{IfOk-weaker}
use Rattle.request_text.specs.Text.{modules_of}
use Rattle.run_books.specs.Lines.{limits_in}
use Rattle.host_report.specs.Made.{AreOfRun}
use Rattle.host_report.proofs.AnswerLemmas.{all_told, lines_all}
use Rattle.host_report.proofs.file_report.report_in.Goals as goal

pub lines-requires-clause-all : goal.lines-requires-clause-all
lines-requires-clause-all g c =
    let limits = limits_in c.args.requests.now.profile g.N.Naming.config in
    let all = c.args.requests.now.directives in
    let closed = rw (← c.into_books-registry.ensures) at c.in_ok-made.ensures.books in
    let told = all_told limits (modules_of all) all _ (lines_all limits all _ _ _ refl closed.lines) in
    rw (c.deref_mut.ensures.value, c.into_lines-board.ensures) told.all

pub lines-requires-clause-right : goal.lines-requires-clause-right
lines-requires-clause-right g c =
    let limits = limits_in c.args.requests.now.profile g.N.Naming.config in
    let all = c.args.requests.now.directives in
    let closed = rw (← c.into_books-registry.ensures) at c.in_ok-made.ensures.books in
    let told = all_told limits (modules_of all) all _ (lines_all limits all _ _ _ refl closed.lines) in
    rw (c.deref_mut.ensures.value, c.into_lines-board.ensures) told.right

pub returns-clause-made : goal.returns-clause-made
returns-clause-made g c =
    IfOk-weaker c.lines.result _ _ (λ lines shown.
    let were : AreOfRun g.N.Naming g.N.Naming.config c.args.requests.now c.args.slice lines.items = record {
      run = c.in_ok-made.made;
      made = c.in_ok-made.ensures.made;
      closed = c.in_ok-made.ensures.books;
      shown = rw (← c.into_books-registry.ensures) (rw (c.deref_mut.ensures.value, c.into_lines-board.ensures) at shown);
    } in were) c.lines.ensures.shown
