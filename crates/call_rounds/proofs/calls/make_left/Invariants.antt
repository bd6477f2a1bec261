use Rattle.std.proofs.Common.{◌≡◌, ◌≤◌, ℕ, drop, take}
use Rattle.retired_tags.specs.Passes.{steps}
use Rattle.retired_tags.specs.Steps.{HasSet, Knows}
use Rattle.request_text.specs.Text.{call_count}
use Rattle.run_books.specs.Lines.{limits_in}
use Rattle.run_books.specs.Books.{HasLines, directives_in}
use Rattle.call_rounds.specs.Rounds.{calls_to}
use Rattle.call_rounds.proofs.LeftLemmas.{LeftSoFar}
use Rattle.call_rounds.proofs.calls.make_left.Given as goal

abbrev pub invariant-loop-at : goal.invariant-loop-at
invariant-loop-at g l = record {
  above : l.fn.span.from ≤ l.at;
  within : l.at ≤ l.fn.span.to;
  number_is : l.number ≡ call_count (take l.at l.fn.requests.directives);
  lines : HasLines (limits_in l.fn.requests.profile g.N.Naming.config) l.fn.requests.directives l.number (calls_to l.fn.requests.directives l.fn.span) l.board;
  lane : l.lane.host ≡ l.initial.lane.host;
  tags : (tag : ℕ) → HasSet tag (steps l.lane.pass.retired) → HasSet tag (steps l.initial.lane.pass.retired);
  known : (tag : ℕ) → Knows tag (steps l.initial.lane.pass.retired) → Knows tag (steps l.lane.pass.retired);
  left : LeftSoFar g.N.Naming.config l.initial.lane.host l.registry.entries.items l.fn.span.calls (directives_in l.fn.requests.directives l.fn.span)
      (drop l.at (take l.fn.span.to l.fn.requests.directives)) l.number l.initial.board l.board l.initial.lane.pass l.lane.pass;
}
