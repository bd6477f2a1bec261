use Rattle.std.proofs.Common.{arith}
use Rattle.run_books.specs.Lines.{limits_in}
use Rattle.run_books.proofs.BoardLemmas.{lines_wider}
use Rattle.run_books.proofs.PlaceLemmas.{fewer_calls}
use Rattle.call_rounds.proofs.crew_rounds.enter_alone.Goals as goal

pub returns-clause-books : goal.returns-clause-books
returns-clause-books g c =
    let all = c.args.requests.now.directives in
    let calls = c.requires.span.calls_are in
    let later = fewer_calls all c.args.span.from c.args.span.to c.requires.span.order in record {
      entered = c.in_ok-enter_round.ensures.entered;
      lines = lines_wider (limits_in c.args.requests.now.profile g.N.Naming.config) all _ _ _ _ c.requires.books.lines (omega arith);
    }
