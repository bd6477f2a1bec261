use Rattle.std.proofs.Common.{◌≡◌, List, ℕ, length, take, drop, refl, sym, ap, ◌∙◌, arith}
use Rattle.wasm_spec.specs.Store.{written}
use Rattle.linear_memory.specs.declared.memory.Memory.{Memory}
use Rattle.linear_memory.specs.Bytes.{shown, size_of}
use Rattle.linear_memory.proofs.WrittenBytes.{part-length, part-of_first}
use Rattle.linear_memory.proofs.MarkedBlocks.{marks_part, memory_written, row_length, shown_written}
use Rattle.linear_memory.proofs.memory.Memory.copy.Goals as goal

pub returns-clause-after : goal.returns-clause-after
returns-clause-after c =
    let (most, is) = c.requires in
    let room = is.bytes in
    let size = is.size in
    let old : Memory = c.args.self.now in
    let new : Memory = record { bytes = c.copy.new.self; pages = old.pages; marks = c.mark_touched.new.marks } in
    let piece : List ℕ = take c.args.count (drop c.args.from c.args.self.now.bytes.items) in
    let long : length piece ≡ c.args.count = part-length c.args.from c.args.count c.args.self.now.bytes.items (omega arith) in
    shown_written old new c.args.to piece (omega arith) c.copy.ensures.items most is refl
    ∙ ap (written (shown old) c.args.to) (sym (part-of_first c.args.from c.args.count (size_of old) old.bytes.items (omega arith)))

pub returns-clause-memory : goal.returns-clause-memory
returns-clause-memory c most is =
    let room = is.bytes in
    let size = is.size in
    let marks = is.marks in
    let old : Memory = c.args.self.now in
    let new : Memory = record { bytes = c.copy.new.self; pages = old.pages; marks = c.mark_touched.new.marks } in
    let piece : List ℕ = take c.args.count (drop c.args.from c.args.self.now.bytes.items) in
    let long : length piece ≡ c.args.count = part-length c.args.from c.args.count c.args.self.now.bytes.items (omega arith) in
    memory_written old new c.args.to piece (omega arith) c.copy.ensures.items most is refl (ap length c.mark_touched.ensures ∙ row_length old.marks.items c.args.to c.args.count (omega arith))
    c.copy.ensures.accessible

pub returns-clause-marks : goal.returns-clause-marks
returns-clause-marks c =
    let (most, is) = c.requires in
    let room = is.bytes in
    let size = is.size in
    let old : Memory = c.args.self.now in
    let new : Memory = record { bytes = c.copy.new.self; pages = old.pages; marks = c.mark_touched.new.marks } in
    let piece : List ℕ = take c.args.count (drop c.args.from c.args.self.now.bytes.items) in
    let long : length piece ≡ c.args.count = part-length c.args.from c.args.count c.args.self.now.bytes.items (omega arith) in
    marks_part old new c.args.to piece (omega arith) c.copy.ensures.items most c.args.count is long c.mark_touched.ensures
