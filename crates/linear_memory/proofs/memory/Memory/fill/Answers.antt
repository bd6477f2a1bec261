use Rattle.std.proofs.Common.{◌≡◌, List, ℕ, length, replicate, refl, ap, ◌∙◌, arith}
use Rattle.std.proofs.lemmas.List.{length-replicate}
use Rattle.linear_memory.specs.declared.memory.Memory.{Memory}
use Rattle.linear_memory.proofs.MarkedBlocks.{marks_part, memory_written, row_length, shown_written}
use Rattle.linear_memory.proofs.memory.Memory.fill.Goals as goal

pub returns-clause-after : goal.returns-clause-after
returns-clause-after c =
    let (most, is) = c.requires in
    let room = is.bytes in
    let size = is.size in
    let old : Memory = c.args.self.now in
    let new : Memory = record { bytes = c.fill.new.self; pages = old.pages; marks = c.mark_touched.new.marks } in
    let piece : List ℕ = replicate c.args.count c.args.value in
    let long : length piece ≡ c.args.count = length-replicate c.args.count c.args.value in
    shown_written old new c.args.to piece (omega arith) c.fill.ensures.items most is refl

pub returns-clause-memory : goal.returns-clause-memory
returns-clause-memory c most is =
    let room = is.bytes in
    let size = is.size in
    let marks = is.marks in
    let old : Memory = c.args.self.now in
    let new : Memory = record { bytes = c.fill.new.self; pages = old.pages; marks = c.mark_touched.new.marks } in
    let piece : List ℕ = replicate c.args.count c.args.value in
    let long : length piece ≡ c.args.count = length-replicate c.args.count c.args.value in
    memory_written old new c.args.to piece (omega arith) c.fill.ensures.items most is refl (ap length c.mark_touched.ensures ∙ row_length old.marks.items c.args.to c.args.count (omega arith))
    c.fill.ensures.accessible

pub returns-clause-marks : goal.returns-clause-marks
returns-clause-marks c =
    let (most, is) = c.requires in
    let room = is.bytes in
    let size = is.size in
    let old : Memory = c.args.self.now in
    let new : Memory = record { bytes = c.fill.new.self; pages = old.pages; marks = c.mark_touched.new.marks } in
    let piece : List ℕ = replicate c.args.count c.args.value in
    let long : length piece ≡ c.args.count = length-replicate c.args.count c.args.value in
    marks_part old new c.args.to piece (omega arith) c.fill.ensures.items most c.args.count is long c.mark_touched.ensures
