use Rattle.std.proofs.Common.{◌≡◌, ◌/◌, ◌∙◌, true, is_some, sym, arith}
use Rattle.std.specs.Ordering.{nat_cmp}
use Rattle.std.specs.BTreeMap.{get}
use Rattle.sparse_bytes.proofs.MarkedBlocks.{marked_none, marked_more}
use Rattle.sparse_bytes.proofs.WrittenBlocks.{covered_block, least_block}
use Rattle.sparse_bytes.proofs.bytes.SparseBytes.mark_blocks.Goals as goal

pub loop-number-init : goal.loop-number-init
loop-number-init c =
    let keys = c.keys-number-items.ensures in
    let has = rw keys.rest at keys.has in
    rw (c.into_iter-number-iterator.ensures.into_iter_gives, keys.rest)
    (marked_none (λ q. is_some (get nat_cmp c.args.self.now.whole q) ≡ true) 1 _ c.mark_blocks.new.marks.items keys.found (λ q h. sym (has q) ∙ h))

pub loop-number-preserved : goal.loop-number-preserved
loop-number-preserved c =
    let one : c.in-Some.number.now / 1 ≡ c.in-Some.number.now = omega arith in
    rw (c.mark.ensures, ← one)
    (marked_more (λ q. is_some (get nat_cmp c.args.self.now.whole q) ≡ true) 1 c.in-Some.number.now c.next.new.self c.mark_blocks.new.marks.items c.loop-number.marks.items
    (rw c.in-Some.ensures.steps at c.loop-number.invariant))

pub returns-clause-covered : goal.returns-clause-covered
returns-clause-covered c =
    covered_block c.args.self.now c.mark_blocks.new.marks.items c.loop-number.marks.items (rw c.in-None.ensures.steps.0 at c.loop-number.invariant) c.mark_blocks.ensures.covered

pub returns-clause-kept : goal.returns-clause-kept
returns-clause-kept c k e = c.mark_blocks.ensures.kept k (c.loop-number.invariant.kept k e)

pub returns-clause-least : goal.returns-clause-least
returns-clause-least c =
    least_block c.args.self.now c.mark_blocks.new.marks.items c.loop-number.marks.items (rw c.in-None.ensures.steps.0 at c.loop-number.invariant) c.args.marks.now.items c.mark_blocks.ensures.least
