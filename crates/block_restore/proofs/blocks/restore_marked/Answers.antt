use Rattle.std.proofs.Common.{◌/◌, ◌∙◌, ℕ, List, Bool, false, length, ap, arith, rules}
use Rattle.std.specs.Prelude.{slice_index_or}
use Rattle.std.proofs.lemmas.List.{length-set}
use Rattle.linear_memory.specs.Zeroed.{BytesView}
use Rattle.memory_blocks.proofs.MarkLemmas.{count, none_at_all}
use Rattle.block_restore.specs.Images.{HasImage, byte_of}
use Rattle.block_restore.proofs.MarkLemmas.{count_less, kept_more, none_counted}
use Rattle.block_restore.proofs.blocks.restore_marked.Goals as goal

pub write_block-requires-clause-few : goal.write_block-requires-clause-few
write_block-requires-clause-few g c = let below = c.in-Some.ensures.first.below in omega (arith, c.loop-block.invariant.blocks, c.requires.few)

pub write_block-requires-clause-within : goal.write_block-requires-clause-within
write_block-requires-clause-within g c =
    let below = c.in-Some.ensures.first.below in
    let begun = ap (λ (b : BytesView). length b.items) c.new-counted.ensures.same.0 in
    omega (arith, c.loop-block.invariant.blocks, c.loop-block.invariant.room, c.requires.marked, begun)

pub loop-block-preserved : goal.loop-block-preserved
loop-block-preserved g c =
    let marks : List Bool = c.loop-block.marks.items in
    let block : ℕ = c.in-Some.block in
    let first = c.in-Some.ensures.first in
    let marks_are = c.in-Some.ensures.marks in
    let inv = c.loop-block.invariant in
    let after = c.write_block.ensures in
    record {
      references = (after.references.0 ∙ inv.references.0, after.references.1 ∙ inv.references.1);
      room = after.room ∙ inv.room;
      blocks = ap length marks_are ∙ length-set marks block false ∙ inv.blocks;
      outside = rw marks_are
          (kept_more marks block (byte_of c.args.image) c.loop-block.counted.bytes.now.items _ after.room after.image after.before after.after inv.outside);
      steps = let less = count_less marks block first.below first.marked in omega (arith, less, ap count marks_are, after.step, inv.steps);
    }

pub loop-block-smaller : goal.loop-block-smaller
loop-block-smaller g c =
    let first = c.in-Some.ensures.first in
    let less = count_less c.loop-block.marks.items c.in-Some.block first.below first.marked in
    omega (arith, less, ap count c.in-Some.ensures.marks)

pub returns-clause-bytes : goal.returns-clause-bytes
returns-clause-bytes g c =
    let is : HasImage c.loop-block.counted.bytes.now.items (byte_of c.args.image) =
    λ i lt. c.loop-block.invariant.outside i lt (none_at_all c.loop-block.marks.items c.in_default.ensures.first (i / 4096)) in
    search (rules, is)

pub returns-clause-marks : goal.returns-clause-marks
returns-clause-marks g c =
    λ k. ap (λ (l : List Bool). slice_index_or l k false) c.in_default.ensures.marks ∙ none_at_all c.loop-block.marks.items c.in_default.ensures.first k

pub returns-clause-steps : goal.returns-clause-steps
returns-clause-steps g c =
    let none = none_counted c.loop-block.marks.items (none_at_all c.loop-block.marks.items c.in_default.ensures.first) in
    omega (arith, none, c.loop-block.invariant.steps, c.new-counted.ensures.same.1)
