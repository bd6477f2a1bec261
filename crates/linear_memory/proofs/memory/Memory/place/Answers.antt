use Rattle.std.proofs.Common.{length, refl, ap, ◌∙◌, arith}
use Rattle.std.proofs.lemmas.List.{length-take}
use Rattle.linear_memory.specs.declared.memory.Memory.{Memory}
use Rattle.linear_memory.specs.Bytes.{size_of}
use Rattle.linear_memory.proofs.MarkedBlocks.{marks_part, memory_written, row_length, shown_written}
use Rattle.linear_memory.proofs.memory.Memory.place.Goals as goal

-- the size is small, since so is the number of pages
pub mark_touched-requires-clause-small : goal.mark_touched-requires-clause-small
mark_touched-requires-clause-small c = omega (arith, c.requires.fits, length-take (size_of c.args.self.now) c.args.self.now.bytes.items)

pub returns-clause-after : goal.returns-clause-after
returns-clause-after c =
    let (most, is) = c.requires.memory in
    let long = length-take (size_of c.args.self.now) c.args.self.now.bytes.items in
    let old : Memory = c.args.self.now in
    let new : Memory = record { bytes = c.put.new.self; pages = old.pages; marks = c.mark_touched.new.marks } in
    shown_written old new c.args.to c.args.piece.now (let fits = c.requires.fits in omega arith) c.put.ensures.items most is refl

pub returns-clause-memory : goal.returns-clause-memory
returns-clause-memory c most is =
    let fits = c.requires.fits in
    let marks = is.marks in
    let size = is.size in
    let long = length-take (size_of c.args.self.now) c.args.self.now.bytes.items in
    let old : Memory = c.args.self.now in
    let new : Memory = record { bytes = c.put.new.self; pages = old.pages; marks = c.mark_touched.new.marks } in
    memory_written old new c.args.to c.args.piece.now (omega arith) c.put.ensures.items most is refl
    (ap length c.mark_touched.ensures ∙ row_length old.marks.items c.args.to (length c.args.piece.now) (omega arith))
    c.put.ensures.accessible

pub returns-clause-marks : goal.returns-clause-marks
returns-clause-marks c =
    let (most, is) = c.requires.memory in
    let fits = c.requires.fits in
    let long = length-take (size_of c.args.self.now) c.args.self.now.bytes.items in
    let old : Memory = c.args.self.now in
    let new : Memory = record { bytes = c.put.new.self; pages = old.pages; marks = c.mark_touched.new.marks } in
    marks_part old new c.args.to c.args.piece.now (omega arith) c.put.ensures.items most (length c.args.piece.now) is refl c.mark_touched.ensures
