use Rattle.std.proofs.Common.{◌∙◌, length, refl, ap, arith}
use Rattle.std.proofs.lemmas.List.{length-set}
use Rattle.linear_memory.specs.declared.memory.Memory.{Memory}
use Rattle.linear_memory.proofs.MarkedBlocks.{marks_part, memory_written, pair_is_part, shown_written}
use Rattle.linear_memory.proofs.memory.Memory.write.Goals as goal

pub mark-requires-clause-first : goal.mark-requires-clause-first
mark-requires-clause-first c =
    let (most, is) = c.requires.memory in
    let marks = is.marks in
    let size = is.size in
    omega arith

pub mark-requires-clause-last : goal.mark-requires-clause-last
mark-requires-clause-last c =
    let (most, is) = c.requires.memory in
    let marks = is.marks in
    let size = is.size in
    omega arith

pub returns-clause-after : goal.returns-clause-after
returns-clause-after c =
    let (most, is) = c.requires.memory in
    let old : Memory = c.args.self.now in
    let new : Memory = record { bytes = c.put.new.self; pages = old.pages; marks = c.mark.new.marks } in
    shown_written old new c.args.at c.args.piece.now (omega arith) c.put.ensures.items most is refl

pub returns-clause-memory : goal.returns-clause-memory
returns-clause-memory c most is =
    let old : Memory = c.args.self.now in
    let new : Memory = record { bytes = c.put.new.self; pages = old.pages; marks = c.mark.new.marks } in
    memory_written old new c.args.at c.args.piece.now (omega arith) c.put.ensures.items most is refl (ap length c.mark.ensures ∙ simp length-set)
    c.put.ensures.accessible

pub returns-clause-marks : goal.returns-clause-marks
returns-clause-marks c =
    let (most, is) = c.requires.memory in
    let m = is.marks in
    let s = is.size in
    let n = length c.args.piece.now in
    let old : Memory = c.args.self.now in
    let new : Memory = record { bytes = c.put.new.self; pages = old.pages; marks = c.mark.new.marks } in
    marks_part old new c.args.at c.args.piece.now (omega arith) c.put.ensures.items most n is refl
    (c.mark.ensures ∙ pair_is_part old.marks.items c.args.at n c.requires.some c.requires.short (omega arith))
