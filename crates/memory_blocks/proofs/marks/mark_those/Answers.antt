use Rattle.std.proofs.Common.{refl, arith}
use Rattle.memory_blocks.proofs.MarkLemmas.{joined_none, joined_more, joined_all}
use Rattle.memory_blocks.proofs.marks.mark_those.Goals as goal

pub loop-block-init : goal.loop-block-init
loop-block-init c = joined_none c.args.first c.args.end c.args.marks.now.items c.args.others.now c.requires.others

pub loop-block-preserved : goal.loop-block-preserved
loop-block-preserved c =
    let so = c.loop-block.invariant in
    let room = so.room in
    let within = c.requires.others.within in
    rw c.mark_if.ensures
    (joined_more c.loop-block.block c.args.marks.now.items c.args.others.now c.loop-block.marks.items _ refl (omega (arith, c.requires.room, room, within)) so)

pub returns : goal.returns
returns c = joined_all c.args.first c.args.end c.loop-block.block c.args.marks.now.items c.args.others.now c.loop-block.marks.items c.requires.others (omega arith) c.loop-block.invariant
