use Rattle.std.proofs.Common.{◌+◌, refl, arith}
use Rattle.linear_memory.specs.declared.memory.Memory.{Memory}
use Rattle.linear_memory.proofs.GrownBytes.{shown_grown, memory_grown}
use Rattle.linear_memory.proofs.MarkedBlocks.{changes_none, part_none}
use Rattle.linear_memory.proofs.memory.Memory.grow.Goals as goal

pub make_accessible-requires : goal.make_accessible-requires
make_accessible-requires c = let (limit, is, le) = c.requires in let room = is.bytes in omega arith

pub returns-clause-grown : goal.returns-clause-grown
returns-clause-grown c =
    let (limit, is, le) = c.requires in
    let old : Memory = c.args.self.now in
    let new : Memory = record { bytes = c.make_accessible.new.self; pages = old.pages + c.args.pages; marks = old.marks } in
    record { fits = omega arith; before_is = refl; shown_is = shown_grown limit c.args.pages old new is (omega arith) c.make_accessible.ensures.items refl refl }

pub returns-clause-memory : goal.returns-clause-memory
returns-clause-memory c limit le is =
    let old : Memory = c.args.self.now in
    let new : Memory = record { bytes = c.make_accessible.new.self; pages = old.pages + c.args.pages; marks = old.marks } in
    let accessible = c.make_accessible.ensures.accessible in
    memory_grown limit c.args.pages old new is (omega arith) c.make_accessible.ensures.items refl refl (omega arith)

pub returns-clause-marks : goal.returns-clause-marks
returns-clause-marks c =
    let old : Memory = c.args.self.now in
    let new : Memory = record { bytes = c.make_accessible.new.self; pages = old.pages + c.args.pages; marks = old.marks } in
    let none = part_none old 0 in
    record { changes = changes_none old new c.make_accessible.ensures.items refl; marks = none.marks }
