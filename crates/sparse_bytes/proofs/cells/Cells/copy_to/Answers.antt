use Rattle.std.proofs.Common.{rules, ◌+◌, length}
use Rattle.sparse_bytes.proofs.CopiedCells.{copied_none, copied_more}
use Rattle.sparse_bytes.proofs.cells.Cells.copy_to.Goals as goal

pub loop-number-init : goal.loop-number-init
loop-number-init c =
    let zeros = c.fill.ensures.after (λ y is. search rules) in
    let range = c.range-number-items.ensures in
    let between = range.between tt in
    rw (c.into_iter-number-iterator.ensures.into_iter_gives, between, zeros)
    (copied_none c.args.self.now c.args.first (c.args.first + c.div_ceil.result) (length c.args.part.now) (rw (c.div_ceil.ensures, c.fill.ensures.len)) (rw between at (range.in_range tt).0))

pub loop-number-preserved : goal.loop-number-preserved
loop-number-preserved c =
    let written = c.put_cell.ensures in
    copied_more c.args.self.now c.args.first (c.args.first + c.div_ceil.result) c.in-Some.number.now c.in-Some.cell.now c.next.new.self c.loop-number.part c.put_cell.new.part
    (rw c.in-Some.ensures.steps at c.loop-number.invariant)
    written.within written.before written.after written.room
