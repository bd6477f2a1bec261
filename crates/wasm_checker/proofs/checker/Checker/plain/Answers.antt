use Rattle.wasm_checker.proofs.checker.Checker.plain.Goals as goal

pub returns-in-BrTable : goal.returns-in-BrTable
returns-in-BrTable c k h = rw c.in-BrTable.is (rw (c.as_slice.ensures, c.result_of-in-BrTable.ensures) at (c.branch_table.ensures k h))
