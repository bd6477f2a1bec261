use Rattle.std.proofs.Common.{◌≡◌, ◌∙◌, ◌+◌, ◌≤◌, [], Option, ap, arith, length, rules}
use Rattle.job_queue.specs.declared.accounts.Account.{Account}
use Rattle.job_queue.specs.Passes.{IsJobPass, IsPutter, capacity_of, count_of, first_of, put_by}
use Rattle.pool_model.specs.Contents.{Named}
use Rattle.request_text.specs.Text.{call_count}
use Rattle.run_books.specs.Put.{CanPutAll}
use Rattle.run_books.specs.Books.{HasEntered, directives_in}
use Rattle.run_books.proofs.DueLemmas.{length-dues}
use Rattle.run_books.proofs.PlaceLemmas.{part_all}
use Rattle.run_books.proofs.PutLemmas.{put_ends}
use Rattle.call_rounds.proofs.sliced_run.slice_calls.Goals as goal

pub join-sliced-requires-after_bounds : goal.join-sliced-requires-after_bounds
join-sliced-requires-after_bounds g c κs within =
    let all = c.args.requests.now.directives in
    let r = c.requires.crew in
    let s = c.of_all-span.ensures in
    let takers_are = r.many in
    let items_are = r.items in
    let some = c.requires.some in
    let numbers_are = r.numbers in
    let room_is = r.room in
    let workers_are = c.worker_count-workers.ensures in
    let calls_are = s.calls in
    let first_is = r.first in
    let whole : directives_in all c.of_all-span.result ≡ all = part_all all c.of_all-span.result.from c.of_all-span.result.to s.from s.to in
    let counted = ap call_count whole in
    let many : (1 ≤ length c.args.crew.takers.items) × (length c.args.crew.takers.items ≤ 32) = (omega (arith, some.0), omega (arith, some.1)) in
    let items : (1 ≤ length c.args.crew.passes.items) × (length c.args.crew.passes.items ≤ 32) = (omega (arith, some.0), omega (arith, some.1)) in
    let entered : HasEntered g.N.Naming.config c.args.requests.now c.of_all-span.result.from c.args.registry = rw s.from c.requires.entered in
    let own : IsJobPass c.args.crew.shared.jobs c.args.crew.putter = r.putter.own in
    let putter : IsPutter c.args.crew.putter = ap (λ (a : Account (Option Named)). a.puts) r.putter.account_is in
    let none : put_by c.args.crew.putter ≡ [] = ap (λ (a : Account (Option Named)). a.put) r.putter.account_is in
    let first : first_of c.args.crew.shared.jobs ≡ c.of_all-span.result.calls + 1 = omega arith in
    let enough : call_count (directives_in all c.of_all-span.result) ≤ count_of c.args.crew.shared.jobs = omega (arith, length-dues 1 all) in
    let room : call_count (directives_in all c.of_all-span.result) + c.worker_count-workers.result ≤ capacity_of c.args.crew.shared.jobs = omega (arith, length-dues 1 all) in
    let can : CanPutAll g.N.Naming.config c.args.requests.now c.of_all-span.result c.args.crew.shared.jobs c.worker_count-workers.result (record { registry = c.args.registry; own = c.args.crew.putter }) =
    record { span_is = s.span; entered = entered; own = own; puts = putter; none = none; first = first; count = enough; room = room } in search (rules, many, items, can)

pub finish_slices-worked-requires-clause-none : goal.finish_slices-worked-requires-clause-none
finish_slices-worked-requires-clause-none g c =
    let put = rw c.in_ok-registry.was at c.join-sliced.ensures.second.put in put.given ∙ ap (λ (a : Account (Option Named)). a.given) c.requires.crew.putter.account_is

pub finish_slices-worked-requires-clause-ends : goal.finish_slices-worked-requires-clause-ends
finish_slices-worked-requires-clause-ends g c =
    let put = rw c.in_ok-registry.was at c.join-sliced.ensures.second.put in
    rw put.put (put_ends c.in_ok-registry.registry.entries.items (c.of_all-span.result.calls + 1) (directives_in c.args.requests.now.directives c.of_all-span.result) c.worker_count-workers.result (omega arith))

pub finish_slices-worked-requires-clause-whole : goal.finish_slices-worked-requires-clause-whole
finish_slices-worked-requires-clause-whole g c =
    let put = rw c.in_ok-registry.was at c.join-sliced.ensures.second.put in
    let count = c.worker_count-workers.ensures in
    let share = put.share in
    let one = ap (λ (a : Account (Option Named)). a.share) c.requires.crew.putter.account_is in
    let passes = c.requires.crew.passes in omega arith

pub returns-clause-answers : goal.returns-clause-answers
returns-clause-answers g c =
    let all = c.args.requests.now.directives in
    let put = rw c.in_ok-registry.was at c.join-sliced.ensures.second.put in
    let s = c.of_all-span.ensures in
    let whole : directives_in all c.of_all-span.result ≡ all = part_all all c.of_all-span.result.from c.of_all-span.result.to s.from s.to in
    rw (put.put, s.calls, whole, c.worker_count-workers.ensures, c.requires.crew.calls_are) at c.finish_slices-worked.ensures.answers

pub returns-clause-in_slices : goal.returns-clause-in_slices
returns-clause-in_slices g c =
    let all = rw c.in_ok-sliced.was at c.join-sliced.ensures.first.0 in
    let causes = rw c.in_ok-sliced.was at c.join-sliced.ensures.first.1 in record {
      sliced = c.in_ok-sliced.field-0;
      all = rw c.requires.crew.many at all;
      causes = causes;
      entries_are = c.finish_slices-worked.ensures.same;
    }
