use Rattle.std.proofs.Common.{arith}
use Rattle.std.proofs.lemmas.List.{drop_all}
use Rattle.run_books.proofs.DueLemmas.{dues_begin, dues_end}
use Rattle.run_books.proofs.due_list.dues.Goals as goal

pub loop-directive-init : goal.loop-directive-init
loop-directive-init c = rw c.new-calls.ensures.items (dues_begin c.args.requests.now)

pub returns : goal.returns
returns c = dues_end c.args.requests.now _ _ _ (drop_all c.loop-directive.directive-index c.args.requests.now c.loop-directive-test.false) c.loop-directive.invariant
