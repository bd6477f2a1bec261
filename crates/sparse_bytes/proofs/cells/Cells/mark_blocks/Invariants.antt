use Rattle.sparse_bytes.specs.Cells.{HasCell}
use Rattle.sparse_bytes.proofs.MarkedBlocks.{IsMarkedBut}
use Rattle.sparse_bytes.proofs.cells.Cells.mark_blocks.Given as goal

-- the blocks of the cells so far are marked
abbrev pub invariant-loop-number : goal.invariant-loop-number
invariant-loop-number l = IsMarkedBut (HasCell l.self) l.cells l.number-iterator l.initial.marks.items l.marks.items
