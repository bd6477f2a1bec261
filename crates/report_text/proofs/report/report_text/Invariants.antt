use Rattle.std.proofs.Common.{◌≡◌, ◌++◌, length}
use Rattle.std.specs.Vec.Iter.{into_iter_items, into_iter_len}
use Rattle.report_text.specs.Lines.{report_text}
use Rattle.report_text.proofs.report.report_text.Given as goal

-- the text so far and that of the lines that are left are the text of all
abbrev pub invariant-loop-line : goal.invariant-loop-line
invariant-loop-line l = record {
  text : l.text.items ++ report_text (into_iter_items l.line-iterator) ≡ report_text l.fn.lines.items;
  len : into_iter_len l.line-iterator ≡ length (into_iter_items l.line-iterator);
}
