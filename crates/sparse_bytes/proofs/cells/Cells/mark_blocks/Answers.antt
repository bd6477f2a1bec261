use Rattle.std.proofs.Common.{◌∙◌, sym}
use Rattle.sparse_bytes.specs.Cells.{HasCell}
use Rattle.sparse_bytes.proofs.MarkedBlocks.{marked_none, marked_more, unmarked_zero}
use Rattle.sparse_bytes.proofs.cells.Cells.mark_blocks.Goals as goal

pub loop-number-init : goal.loop-number-init
loop-number-init c =
    let keys = c.keys-number-items.ensures in
    let has = rw keys.rest at keys.has in
    rw (c.into_iter-number-iterator.ensures.into_iter_gives, keys.rest)
    (marked_none (HasCell c.args.self.now) c.args.cells _ c.args.marks.now.items keys.found (λ q h. sym (has q) ∙ h))

pub loop-number-preserved : goal.loop-number-preserved
loop-number-preserved c =
    rw c.mark.ensures
    (marked_more (HasCell c.args.self.now) c.args.cells c.in-Some.number.now c.next.new.self c.args.marks.now.items c.loop-number.marks.items
    (rw c.in-Some.ensures.steps at c.loop-number.invariant))

pub returns-clause-covered : goal.returns-clause-covered
returns-clause-covered c =
    unmarked_zero c.args.self.now c.args.cells c.args.marks.now.items c.loop-number.marks.items c.requires
    (rw c.in-None.ensures.steps.0 at c.loop-number.invariant)
