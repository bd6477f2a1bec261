use Rattle.std.proofs.Common.{◌+◌, ◌-◌, length, arith}
use Rattle.sparse_bytes.proofs.WrittenCells.{written_cell}
use Rattle.sparse_bytes.proofs.cells.Cells.write_cell.Goals as goal

pub returns-in-Ok : goal.returns-in-Ok
returns-in-Ok c =
    let from = c.args.from in
    let piece = c.args.piece.now in
    written_cell c.args.self.now (record { cells = c.insert.new.self }) c.args.number from (from + length piece - from) c.cell-cell.result piece
    (rw c.copy_from_slice.ensures.after at c.in-Ok.ensures.updates)
    (omega arith) (omega arith) (omega arith) (omega arith) c.cell-cell.ensures
