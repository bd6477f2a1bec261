use Rattle.std.proofs.Common.{◌≡◌, ◌++◌, length}
use Rattle.std.specs.Vec.Iter.{into_iter_items, into_iter_len}
use Rattle.run_books.proofs.BoardLemmas.{CollectedLeft}
use Rattle.run_books.proofs.call_lines.collect_all.Given as goal

abbrev pub invariant-loop-one : goal.invariant-loop-one
invariant-loop-one l = record {
  in_turn : l.yielded ++ into_iter_items l.one-iterator ≡ l.fn.worked.items;
  len : into_iter_len l.one-iterator ≡ length (into_iter_items l.one-iterator);
  collected : CollectedLeft l.fn.calls l.fn.worked.items (into_iter_items l.one-iterator) l.initial.board l.board;
}
