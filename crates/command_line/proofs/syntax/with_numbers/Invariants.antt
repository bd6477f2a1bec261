use Rattle.std.proofs.Common.{drop}
use Rattle.command_line.proofs.NumberRows.{LacksRows}
use Rattle.command_line.proofs.syntax.with_numbers.Given as goal

abbrev pub invariant-loop-row : goal.invariant-loop-row
invariant-loop-row l = LacksRows l.rows l.fn.command (drop l.row-index l.rows) l.with_rows
