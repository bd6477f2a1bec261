use Rattle.std.proofs.Common.{◌≡◌, map, drop}
use Rattle.wasm_spec.specs.Grammar.{section}
use Rattle.wasm_decode.specs.Sections.{section_of}
use Rattle.wasm_decode.proofs.section.find_contents.Given as goal

abbrev pub invariant-loop-section : goal.invariant-loop-section
invariant-loop-section l = section l.id (map section_of (drop l.section-index l.sections)) ≡ section l.id (map section_of l.sections)
