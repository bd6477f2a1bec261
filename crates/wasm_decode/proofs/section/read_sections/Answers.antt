use Rattle.std.proofs.Common.{◌≡◌, [], ◌∷◌, ◌++◌, map, IsTrue, ap, ◌∙◌, arith, rules}
use Rattle.std.proofs.lemmas.List.{length_push, map-append}
use Rattle.wasm_spec.specs.Grammar.{TakesSection}
use Rattle.leb_read.specs.Reading.{rest}
use Rattle.wasm_decode.specs.Sections.{section_of}
use Rattle.instr_decode.proofs.Decoding.{exits, each-more}
use Rattle.instr_decode.proofs.Wants.{each-begins}
use Rattle.wasm_decode.proofs.Sections.{sections-none}
use Rattle.wasm_decode.proofs.section.read_sections.Goals as goal

pub returns-in_err-section-clause-read : goal.returns-in_err-section-clause-read
returns-in_err-section-clause-read c =
    let left : rest c.loop-cursor.cursor ≡ [] → ⊥ = λ e. let f : IsTrue c.is_at_end.result = c.is_at_end.ensures.1 e in first_of (cc, search rules) in
    exits c.from_residual.result _ _ c.in_err-section.field-0.0 c.from_residual.ensures.1
    (sections-none (map section_of c.loop-cursor.sections.items) c.args.bytes.now (rest c.loop-cursor.cursor) c.in_err-section.field-0.0 c.loop-cursor.invariant left c.in_err-section.ensures.section)

pub returns-in_err-push-clause-wanted : goal.returns-in_err-push-clause-wanted
returns-in_err-push-clause-wanted c = λ e.
    let done = map section_of c.loop-cursor.sections.items in
    let section = section_of c.in_ok-section.section in
    each-begins TakesSection (done ++ section ∷ []) c.args.bytes.now (rest c.read_section.new.cursor)
    (each-more TakesSection done section c.args.bytes.now (rest c.loop-cursor.cursor) (rest c.read_section.new.cursor) c.loop-cursor.invariant c.in_ok-section.ensures.section.spelled)
    (omega (arith, length_push done section))

pub loop-cursor-preserved : goal.loop-cursor-preserved
loop-cursor-preserved c =
    let items = c.loop-cursor.sections.items in
    let e : map section_of c.push.new.self.items ≡ map section_of items ++ section_of c.in_ok-section.section ∷ [] =
    ap (map section_of) c.in_ok-push.ensures.items ∙ map-append section_of items (c.in_ok-section.section ∷ []) in
    rw e (each-more TakesSection (map section_of items) (section_of c.in_ok-section.section) c.args.bytes.now (rest c.loop-cursor.cursor) (rest c.read_section.new.cursor) c.loop-cursor.invariant c.in_ok-section.ensures.section.spelled)
