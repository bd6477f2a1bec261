use Rattle.std.proofs.Common.{◌↔◌, map, drop}
use Rattle.wasm_spec.specs.Grammar.{IsOrderedAbove}
use Rattle.wasm_decode.specs.Sections.{section_of}
use Rattle.wasm_decode.proofs.section.are_in_order.Given as goal

abbrev pub invariant-loop-section : goal.invariant-loop-section
invariant-loop-section l = IsOrderedAbove l.fn.profile 0 (map section_of l.sections) ↔ IsOrderedAbove l.fn.profile l.last (map section_of (drop l.section-index l.sections))
