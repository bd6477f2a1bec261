use Rattle.std.proofs.Common.{◌∙◌, ap, arith, length, refl}
use Rattle.run_books.specs.Lines.{limits_in}
use Rattle.run_books.proofs.BoardLemmas.{lines_collected}
use Rattle.run_books.proofs.DueLemmas.{length-dues, numbered_from}
use Rattle.run_books.proofs.EntryLemmas.{many_entries}
use Rattle.run_books.proofs.PlaceLemmas.{all_calls, fewer_calls, placed_in_part}
use Rattle.call_rounds.proofs.WorkedLemmas.{answered_by_crew, lines_of_calls, made_by_none, of_calls, to_collect}
use Rattle.call_rounds.proofs.crew_rounds.by_crew.Goals as goal

pub collect_all-requires-clause-many : goal.collect_all-requires-clause-many
collect_all-requires-clause-many g c =
    let many = c.requires.books.lines.board_is.many in
    let calls = ap length (c.deref.ensures.value ∙ c.in_ok-registry.ensures.crew.calls_are) in omega (arith, length-dues 1 c.args.requests.now.directives)

pub collect_all-requires-clause-numbered : goal.collect_all-requires-clause-numbered
collect_all-requires-clause-numbered g c = λ k due got.
    numbered_from 1 c.args.requests.now.directives k due (rw (c.deref.ensures.value ∙ c.in_ok-registry.ensures.crew.calls_are) at got)

pub collect_all-requires-clause-worked : goal.collect_all-requires-clause-worked
collect_all-requires-clause-worked g c =
    let all = c.args.requests.now.directives in
    let many = c.requires.books.lines.board_is.many in
    let most = fewer_calls all c.args.span.to (length all) c.requires.span.within in
    to_collect c.args.requests.now.profile g.N.Naming.config all c.args.span c.requires.span _ _ _ c.in_ok-registry.ensures.answers
    (limits_in c.args.requests.now.profile g.N.Naming.config) c.args.span.calls _ c.requires.books.lines refl (omega (arith, all_calls all))

pub returns-clause-books : goal.returns-clause-books
returns-clause-books g c =
    let limits = limits_in c.args.requests.now.profile g.N.Naming.config in
    let all = c.args.requests.now.directives in
    let entered = c.in_ok-registry.ensures.entered in
    let answers = c.in_ok-registry.ensures.answers in
    let collected = rw (c.deref.ensures.value ∙ c.in_ok-registry.ensures.crew.calls_are) at c.collect_all.ensures in
    let later = fewer_calls all c.args.span.from c.args.span.to c.requires.span.order in
    let calls = c.requires.span.calls_are in
    let made = of_calls c.args.requests.now.profile g.N.Naming.config all c.args.span c.requires.span _ _ _ answers in record {
      entered = entered;
      lines = lines_collected limits all _ _ c.args.span.calls _ _ _ c.requires.books.lines (omega arith) collected (λ i d lt. (made i d lt).1)
          (lines_of_calls c.args.requests.now.profile g.N.Naming.config all c.args.span c.requires.span _ _ _ answers c.args.span.to _ entered
          (λ at tenant place retired invocation call.
          let p = placed_in_part all c.args.span.from c.args.span.to at tenant place retired invocation c.calls_in.ensures.lawful.placed c.requires.span.order call in
          let many = many_entries limits all c.args.span.to _ _ entered in omega arith));
    }

pub returns-clause-made : goal.returns-clause-made
returns-clause-made g c =
    answered_by_crew _ _ _ _ _ _ _ c.in_ok-registry.ensures.answers (rw (c.deref.ensures.value ∙ c.in_ok-registry.ensures.crew.calls_are) at c.collect_all.ensures) c.in_ok-registry.ensures.work

pub returns-then-calls_in-eq0-clause-made : goal.returns-then-calls_in-eq0-clause-made
returns-then-calls_in-eq0-clause-made g c =
    let none = c.calls_in.ensures.count in
    made_by_none g.N.Naming.config c.args.requests.now c.args.span c.args.crew.now c.args.books c.enter_alone.result (omega arith) c.enter_alone.ensures.board
