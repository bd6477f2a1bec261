use Rattle.std.proofs.Common.{◌≡◌, ◌+◌, ◌≤◌, [], Option, ap, arith, length, rules}
use Rattle.job_queue.specs.declared.accounts.Account.{Account}
use Rattle.job_queue.specs.Passes.{IsJobPass, IsPutter, capacity_of, count_of, first_of, put_by}
use Rattle.pool_model.specs.Contents.{Named}
use Rattle.request_text.specs.Text.{call_count}
use Rattle.run_books.specs.Put.{CanPutAll}
use Rattle.run_books.specs.Books.{directives_in}
use Rattle.run_books.proofs.DueLemmas.{length-dues}
use Rattle.run_books.proofs.PlaceLemmas.{all_calls, fewer_calls}
use Rattle.run_books.proofs.PutLemmas.{calls_of_span, put_ends}
use Rattle.call_rounds.proofs.crew_rounds.work_round.Goals as goal

pub overflow_add-first : goal.overflow_add-first
overflow_add-first g c =
    let all = c.args.requests.now.directives in
    let few = c.calls_in-count.ensures.lawful.few_calls in
    let s = c.requires.span in
    let order = s.order in
    let within = s.within in
    let most = fewer_calls all c.args.span.from (length all) (omega arith) in
    let n = s.calls_are in omega (arith, all_calls all)

pub open_round-requires-clause-numbers : goal.open_round-requires-clause-numbers
open_round-requires-clause-numbers g c =
    let all = c.args.requests.now.directives in
    let few = c.calls_in-count.ensures.lawful.few_calls in
    let count = c.calls_in-count.ensures.count in
    let most = fewer_calls all c.args.span.to (length all) c.requires.span.within in omega (arith, all_calls all, calls_of_span all c.args.span c.requires.span)

pub join-done-requires-after_bounds : goal.join-done-requires-after_bounds
join-done-requires-after_bounds g c κs within =
    let all = c.args.requests.now.directives in
    let r = c.in_ok-round.ensures.round in
    let count = c.calls_in-count.ensures.count in
    let many = c.len-many.ensures in
    let first_is = r.first_is in
    let numbers_are = r.numbers in
    let room_is = r.room in
    let many_is = r.many in
    let calls_are = ap length c.requires.crew.calls_are in
    let most = fewer_calls all c.args.span.to (length all) c.requires.span.within in
    let numbers : first_of c.in_ok-round.round.jobs + count_of c.in_ok-round.round.jobs ≤ length c.args.crew.now.shared.calls.items + 1 =
    omega (arith, all_calls all, calls_of_span all c.args.span c.requires.span, length-dues 1 all) in
    let own : IsJobPass c.in_ok-round.round.jobs c.in_ok-round.round.putter = r.putter.own in
    let putter : IsPutter c.in_ok-round.round.putter = ap (λ (a : Account (Option Named)). a.puts) r.putter.account_is in
    let none : put_by c.in_ok-round.round.putter ≡ [] = ap (λ (a : Account (Option Named)). a.put) r.putter.account_is in
    let first : first_of c.in_ok-round.round.jobs ≡ c.args.span.calls + 1 = r.first_is in
    let enough : call_count (directives_in all c.args.span) ≤ count_of c.in_ok-round.round.jobs = omega arith in
    let room : call_count (directives_in all c.args.span) + c.len-many.result ≤ capacity_of c.in_ok-round.round.jobs = omega arith in
    let can : CanPutAll g.N.Naming.config c.args.requests.now c.args.span c.in_ok-round.round.jobs c.len-many.result (record { registry = c.args.registry; own = c.in_ok-round.round.putter }) =
    record { span_is = c.requires.span; entered = c.requires.entered; own = own; puts = putter; none = none; first = first; count = enough; room = room } in search (rules, numbers, can)

pub finish-requires-clause-ends : goal.finish-requires-clause-ends
finish-requires-clause-ends g c =
    let put = rw c.in_ok-registry.was at c.join-done.ensures.second.put in
    let done = rw c.in_ok-done.was at c.join-done.ensures.first.0 in
    let many = c.len-many.ensures in
    let each : length c.in_ok-done.field-0.items ≡ c.len-many.result = omega arith in
    rw (put.put, each) (put_ends c.in_ok-registry.registry.entries.items (c.args.span.calls + 1) (directives_in c.args.requests.now.directives c.args.span) c.len-many.result (omega arith))

pub returns-clause-crew : goal.returns-clause-crew
returns-clause-crew g c =
    let done = rw c.in_ok-done.was at c.join-done.ensures.first.0 in
    let back = c.in_ok-worked.ensures.back in
    let rest = c.in_ok-round.ensures.rest in
    let many = c.requires.crew.many in
    let few = c.requires.crew.few in record {
      several = c.requires.crew.several;
      slots = c.requires.crew.slots;
      calls_are = c.requires.crew.calls_are;
      many = omega arith;
      callers = c.finish.ensures.callers;
      few = (omega (arith, few.0), omega (arith, few.1));
    }

pub returns-clause-still : goal.returns-clause-still
returns-clause-still g c = λ tag knew.
    let done = rw c.in_ok-done.was at c.join-done.ensures.first.1.1.0 in
    c.in_ok-worked.ensures.known tag (c.open_round.ensures.still tag knew) (done tag (c.in_ok-round.ensures.known tag knew))

pub returns-clause-work : goal.returns-clause-work
returns-clause-work g c = record {
  round = c.in_ok-round.round;
  new = rw c.calls_in-count.ensures.count at c.in_ok-round.ensures.round;
  knew = c.in_ok-round.ensures.known;
  done = c.in_ok-done.field-0.items;
  worked = rw c.in_ok-done.was at c.join-done.ensures.first.1.1.1;
  entries_are = c.in_ok-worked.ensures.given;
}
