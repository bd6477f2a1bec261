use Rattle.std.proofs.Common.{refl}
use Rattle.std.proofs.lemmas.List.{drop_all}
use Rattle.command_line.proofs.NumberRows.{one_row_more}
use Rattle.command_line.proofs.syntax.with_numbers.Goals as goal

pub loop-row-init : goal.loop-row-init
loop-row-init c = record { app = refl; local = c.requires }

pub with_number-requires : goal.with_number-requires
with_number-requires c = c.loop-row.invariant.local

pub loop-row-preserved : goal.loop-row-preserved
loop-row-preserved c = one_row_more _ _ _ _ _ _ c.loop-row.invariant c.loop-row-test.true c.in_ok-with_rows.ensures.app c.in_ok-with_rows.ensures.local

pub returns-clause-app : goal.returns-clause-app
returns-clause-app c = rw (drop_all c.loop-row.row-index c.args.rows.now c.loop-row-test.false) at c.loop-row.invariant.app

pub returns-clause-local : goal.returns-clause-local
returns-clause-local c = c.loop-row.invariant.local
