use Rattle.std.proofs.Common.{◌∙◌, ap, arith}
use Rattle.block_restore.specs.Images.{HasMarked, count_in}
use Rattle.block_restore.proofs.MarkLemmas.{count_within, marked_with}
use Rattle.block_restore.proofs.blocks.write_all.Goals as goal

-- what is marked in the end is marked, or of the old image or the new one
pub returns-clause-steps : goal.returns-clause-steps
returns-clause-steps g c = λ set marked old new.
    let first : HasMarked set c.mark_all_of.new.self.items =
    marked_with set c.args.marks.now.items c.args.written.now.items c.mark_all_of.new.self.items c.mark_all_of.ensures.least marked old in
    let all : HasMarked set c.mark_all_of-2.new.self.items =
    marked_with set c.mark_all_of.new.self.items c.mark_written.new.written.items c.mark_all_of-2.new.self.items c.mark_all_of-2.ensures.least first new in
    let room = ap (count_in set) (c.mark_all_of-2.ensures.room ∙ c.mark_all_of.ensures.room) in
    let within = count_within set c.mark_all_of-2.new.self.items all in
    omega (arith, c.restore_marked.ensures.steps, within, room)
