use Rattle.std.proofs.Common.{◌≡◌, ◌+◌, arith, length, refl}
use Rattle.retired_tags.specs.Passes.{steps}
use Rattle.run_books.specs.Lines.{limits_in}
use Rattle.run_books.specs.Books.{IsSpan}
use Rattle.call_rounds.specs.Rounds.{calls_to}
use Rattle.call_rounds.proofs.LaneLemmas.{retired_before_round, retired_later, retired_then}
use Rattle.run_books.proofs.PlaceLemmas.{all_calls, fewer_calls}
use Rattle.run_books.proofs.PutLemmas.{calls_of_span}
use Rattle.call_rounds.proofs.rounds.make_round.Goals as goal

pub make_left-requires-clause-tags : goal.make_left-requires-clause-tags
make_left-requires-clause-tags g c κs within =
    retired_later _ _ _ _ _ (steps c.args.run.lane.pass.retired) (steps c.args.run.lane.pass.retired) c.requires.run.retired c.in_ok-books.ensures.kept (omega arith) (λ tag has. has)

pub overflow_add-result : goal.overflow_add-result
overflow_add-result g c =
    let all = c.args.requests.now.directives in
    let order = c.requires.to in
    let is_span : IsSpan all (record { from = c.args.run.done; to = c.args.to; calls = c.args.run.calls }) = record { order = order.0; within = order.1; calls_are = c.requires.run.calls_are } in
    let few = c.calls_in-count.ensures.lawful.few_calls in
    let count = c.calls_in-count.ensures.count in
    let most = fewer_calls all c.args.to (length all) order.1 in
    omega (arith, all_calls all, calls_of_span all (record { from = c.args.run.done; to = c.args.to; calls = c.args.run.calls }) is_span)

pub returns-clause-run : goal.returns-clause-run
returns-clause-run g c =
    let all = c.args.requests.now.directives in
    let order = c.requires.to in
    let is_span : IsSpan all (record { from = c.args.run.done; to = c.args.to; calls = c.args.run.calls }) = record { order = order.0; within = order.1; calls_are = c.requires.run.calls_are } in
    let count = c.calls_in-count.ensures.count in
    let last : c.args.run.calls + c.calls_in-count.result ≡ calls_to all (record { from = c.args.run.done; to = c.args.to; calls = c.args.run.calls }) =
    omega (arith, calls_of_span all (record { from = c.args.run.done; to = c.args.to; calls = c.args.run.calls }) is_span) in record {
      within = order.1;
      calls_are = last;
      books = rw last c.in_ok-make_left.ensures.books;
      slots = rw c.in_ok-make_left.ensures.lane c.requires.run.slots;
      crew = c.in_ok-books.ensures.crew;
      retired = rw c.in_ok-make_left.ensures.registry (retired_later _ _ _ _ _ (steps c.args.run.lane.pass.retired) (steps c.make_left.new.lane.pass.retired) c.requires.run.retired c.in_ok-books.ensures.kept order.0 c.in_ok-make_left.ensures.tags);
      known = rw c.in_ok-make_left.ensures.registry (λ tag r.
          let knew = c.requires.run.known tag (retired_then (limits_in c.args.requests.now.profile g.N.Naming.config) _ _ _ all c.args.run.done tag c.requires.run.books.entered c.in_ok-books.ensures.kept
          c.calls_in-count.ensures.lawful.placed (retired_before_round _ all c.args.run.done c.args.to tag c.requires.one_round r)) in record {
            lane = c.in_ok-make_left.ensures.known tag knew.lane;
            crew = c.in_ok-books.ensures.known tag knew.crew;
          });
    }

pub returns-clause-made : goal.returns-clause-made
returns-clause-made g c = record {
  joined = c.in_ok-books.books;
  crew = c.in_ok-books.ensures.made;
  registry = c.in_ok-make_left.ensures.registry;
  lane = c.in_ok-make_left.ensures.made;
  done = refl;
}
