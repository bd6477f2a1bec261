use Rattle.std.proofs.Common.{◌-◌, length, map}
use Rattle.wasm_spec.specs.Numbers.{TakesEach}
use Rattle.wasm_spec.specs.Grammar.{TakesSection}
use Rattle.leb_read.specs.Reading.{rest}
use Rattle.wasm_decode.specs.Sections.{section_of}
use Rattle.wasm_decode.proofs.section.read_sections.Given as goal

abbrev pub invariant-loop-cursor : goal.invariant-loop-cursor
invariant-loop-cursor l = TakesEach TakesSection (map section_of l.sections.items) l.bytes (rest l.cursor)

abbrev pub decreases-loop-cursor : goal.decreases-loop-cursor
decreases-loop-cursor l = length l.cursor.whole - l.cursor.place
