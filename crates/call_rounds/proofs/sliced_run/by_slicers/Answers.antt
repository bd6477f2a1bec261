use Rattle.std.proofs.Common.{◌≡◌, ◌∙◌, ◌+◌, ap, arith, length, refl}
use Rattle.slice_steps.specs.declared.slice_shared.SliceShared.{SliceShared}
use Rattle.call_jobs.specs.Entries.{AnswersAll}
use Rattle.run_books.specs.declared.books.Span.{Span}
use Rattle.run_books.specs.Due.{dues_from}
use Rattle.run_books.specs.Put.{pairs_put}
use Rattle.run_books.specs.Lines.{limits_in}
use Rattle.run_books.specs.Books.{IsSpan, directives_in}
use Rattle.run_books.proofs.BoardLemmas.{lines_collected}
use Rattle.run_books.proofs.DueLemmas.{length-dues, numbered_from}
use Rattle.run_books.proofs.EntryLemmas.{many_entries}
use Rattle.run_books.proofs.PlaceLemmas.{all_calls, part_all, placed_in_part}
use Rattle.call_rounds.proofs.WorkedLemmas.{lines_of_calls, of_calls, to_collect}
use Rattle.call_rounds.proofs.sliced_run.by_slicers.Goals as goal

pub collect_all-requires-clause-numbered : goal.collect_all-requires-clause-numbered
collect_all-requires-clause-numbered g c = rw (c.deref.ensures.value ∙ (ap (λ (shared : SliceShared g.row.N.Denot). shared.calls.items) c.in_ok-registry.ensures.shared ∙ c.requires.crew.calls_are)) (numbered_from 1 c.args.requests.now.directives)

pub collect_all-requires-clause-many : goal.collect_all-requires-clause-many
collect_all-requires-clause-many g c =
    let many = c.requires.books.lines.board_is.many in
    let calls = ap length (c.deref.ensures.value ∙ (ap (λ (shared : SliceShared g.row.N.Denot). shared.calls.items) c.in_ok-registry.ensures.shared ∙ c.requires.crew.calls_are)) in omega (arith, length-dues 1 c.args.requests.now.directives)

pub collect_all-requires-clause-worked : goal.collect_all-requires-clause-worked
collect_all-requires-clause-worked g c =
    let all = c.args.requests.now.directives in
    let span : Span = record { from = 0; to = length all; calls = 0 } in
    let is_span : IsSpan all span = record { order = omega arith; within = omega arith; calls_are = refl } in
    let whole : directives_in all span ≡ all = part_all all 0 (length all) refl refl in
    let answers : AnswersAll g.N.Naming.config (dues_from 1 all) (pairs_put c.in_ok-registry.field-0.registry.entries.items (span.calls + 1) (directives_in all span) g.N.Naming.config.workers) c.in_ok-registry.field-0.worked.items =
    rw whole c.in_ok-registry.ensures.answers in
    let many = c.requires.books.lines.board_is.many in
    to_collect c.args.requests.now.profile g.N.Naming.config all span is_span _ _ _ answers (limits_in c.args.requests.now.profile g.N.Naming.config) 0 _ c.requires.books.lines refl (omega (arith, all_calls all))

pub returns-clause-books : goal.returns-clause-books
returns-clause-books g c =
    let limits = limits_in c.args.requests.now.profile g.N.Naming.config in
    let all = c.args.requests.now.directives in
    let span : Span = record { from = 0; to = length all; calls = 0 } in
    let is_span : IsSpan all span = record { order = omega arith; within = omega arith; calls_are = refl } in
    let whole : directives_in all span ≡ all = part_all all 0 (length all) refl refl in
    let answers : AnswersAll g.N.Naming.config (dues_from 1 all) (pairs_put c.in_ok-registry.field-0.registry.entries.items (span.calls + 1) (directives_in all span) g.N.Naming.config.workers) c.in_ok-registry.field-0.worked.items =
    rw whole c.in_ok-registry.ensures.answers in
    let entered = c.in_ok-registry.ensures.entered in
    let collected = rw (c.deref.ensures.value ∙ (ap (λ (shared : SliceShared g.row.N.Denot). shared.calls.items) c.in_ok-registry.ensures.shared ∙ c.requires.crew.calls_are)) at c.collect_all.ensures in
    let made = of_calls c.args.requests.now.profile g.N.Naming.config all span is_span _ _ _ answers in record {
      entered = entered;
      lines = lines_collected limits all _ _ 0 _ _ _ c.requires.books.lines (omega arith) collected (λ i d lt. let m = (made i d lt).1 in omega (arith, all_calls all))
          (lines_of_calls c.args.requests.now.profile g.N.Naming.config all span is_span _ _ _ answers (length all) _ entered
          (λ at tenant place retired invocation call.
          let p = placed_in_part all 0 (length all) at tenant place retired invocation c.directives-requests.ensures.lawful.placed (omega arith) call in
          let many = many_entries limits all (length all) _ _ entered in omega arith));
    }

pub returns-clause-made : goal.returns-clause-made
returns-clause-made g c =
    let all = c.args.requests.now.directives in
    let span : Span = record { from = 0; to = length all; calls = 0 } in
    let whole : directives_in all span ≡ all = part_all all 0 (length all) refl refl in record {
      answered = record {
        entries = c.in_ok-registry.field-0.worked.items;
        answers = rw whole c.in_ok-registry.ensures.answers;
        collected = rw (c.deref.ensures.value ∙ (ap (λ (shared : SliceShared g.row.N.Denot). shared.calls.items) c.in_ok-registry.ensures.shared ∙ c.requires.crew.calls_are)) at c.collect_all.ensures;
      };
      in_slices = c.in_ok-registry.ensures.in_slices;
    }
