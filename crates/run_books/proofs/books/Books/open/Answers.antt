use Rattle.std.proofs.Common.{◌≡◌, None, replicate}
use Rattle.request_text.specs.Text.{call_count}
use Rattle.run_books.specs.Lines.{limits_in}
use Rattle.run_books.proofs.BoardLemmas.{lines_none}
use Rattle.run_books.proofs.EntryLemmas.{entered_none}
use Rattle.run_books.proofs.books.Books.open.Goals as goal

pub count_calls-requires : goal.count_calls-requires
count_calls-requires g c = rw c.directives.ensures.all c.directives.ensures.lawful.few_calls

pub returns : goal.returns
returns g c =
    let limits = limits_in c.args.requests.now.profile g.N.Naming.config in
    let all = c.args.requests.now.directives in
    let count : c.count_calls.result ≡ call_count all = rw c.directives.ensures.all at c.count_calls.ensures in
    let none : c.in_ok-board.board ≡ replicate (call_count all) None = rw count at c.in_ok-board.ensures in record {
      entered = rw c.new-entries.ensures.items (entered_none limits all c.args.desk c.requires.desk c.requires.room);
      lines = lines_none limits all c.in_ok-board.board none;
    }
