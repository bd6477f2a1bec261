use Rattle.sparse_bytes.proofs.CopiedCells.{IsCopiedBut}
use Rattle.sparse_bytes.proofs.cells.Cells.copy_to.Given as goal

-- the cells so far are copied
abbrev pub invariant-loop-number : goal.invariant-loop-number
invariant-loop-number l = IsCopiedBut l.self l.first l.end l.number-iterator l.part
