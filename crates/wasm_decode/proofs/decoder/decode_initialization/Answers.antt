use Rattle.std.proofs.Common.{◌≡◌, ℕ, IsTrue, List, length, map, rules, subst, arith}
use Rattle.std.proofs.lemmas.List.{length-map}
use Rattle.wasm_types.specs.Tree.{data_tree}
use Rattle.wasm_spec.specs.Grammar.{TakesElement, TakesData, Section, section, SpellsVec, SpellsStart, SpellsCount}
use Rattle.wasm_decode.specs.Sections.{section_of}
use Rattle.wasm_decode.specs.Fields.{SpellsInitialization}
use Rattle.wasm_decode.proofs.Fields.{data-counted, exits-part, exits-wanted, wants-some}
use Rattle.wasm_decode.proofs.decoder.decode_initialization.Goals as goal

pub returns-in_err-start-clause-read : goal.returns-in_err-start-clause-read
returns-in_err-start-clause-read c =
    let ss : List Section = map section_of c.args.sections.now in
    exits-part (λ x. SpellsStart x (section 8 ss)) (SpellsInitialization c.args.profile ss) c.from_residual.result _ c.in_err-start.field-0.0 c.from_residual.ensures.1 c.in_err-start.ensures.read (λ i h. (i.start, h.start))

pub returns-in_err-element_segments-clause-read : goal.returns-in_err-element_segments-clause-read
returns-in_err-element_segments-clause-read c =
    let ss : List Section = map section_of c.args.sections.now in
    exits-part (λ xs. SpellsVec (TakesElement c.args.profile) xs (section 9 ss)) (SpellsInitialization c.args.profile ss) c.from_residual-in_err-element_segments.result _ c.in_err-element_segments.field-0.0 c.from_residual-in_err-element_segments.ensures.1 c.in_err-element_segments.ensures.read (λ i h. (i.element_segments, h.element_segments))

pub returns-in_err-data_segments-clause-read : goal.returns-in_err-data_segments-clause-read
returns-in_err-data_segments-clause-read c =
    let ss : List Section = map section_of c.args.sections.now in
    exits-part (λ xs. SpellsVec (TakesData c.args.profile) xs (section 11 ss)) (SpellsInitialization c.args.profile ss) c.from_residual-in_err-data_segments.result _ c.in_err-data_segments.field-0.0 c.from_residual-in_err-data_segments.ensures.1 c.in_err-data_segments.ensures.read (λ i h. (i.data_segments, h.data_segments))

pub returns-else-is_counted-clause-read : goal.returns-else-is_counted-clause-read
returns-else-is_counted-clause-read c = λ i h.
    let ss : List Section = map section_of c.args.sections.now in
    let counted = data-counted c.args.profile ss i (map data_tree c.in_ok-data_segments.data_segments) h c.in_ok-data_segments.ensures.read in
    let long : length (map data_tree c.in_ok-data_segments.data_segments) ≡ c.len.result = omega (arith, length-map c.in_ok-data_segments.data_segments data_tree, c.len.ensures) in
    let holds : IsTrue c.is_counted.result = c.is_counted.ensures.1 (subst (λ (n : ℕ). SpellsCount n (section 12 ss)) long counted) in
    absurd (first_of (cc, search rules))

pub returns-in_err-element_segments-clause-wanted : goal.returns-in_err-element_segments-clause-wanted
returns-in_err-element_segments-clause-wanted c e = wants-some _ _ 9 c.args.sections.now (exits-wanted c.from_residual-in_err-element_segments.result c.in_err-element_segments.field-0.0 _ c.from_residual-in_err-element_segments.ensures.1 c.in_err-element_segments.ensures.wanted e)

pub returns-in_err-data_segments-clause-wanted : goal.returns-in_err-data_segments-clause-wanted
returns-in_err-data_segments-clause-wanted c e = wants-some _ _ 11 c.args.sections.now (exits-wanted c.from_residual-in_err-data_segments.result c.in_err-data_segments.field-0.0 _ c.from_residual-in_err-data_segments.ensures.1 c.in_err-data_segments.ensures.wanted e)

pub returns-then-is_counted-clause-read : goal.returns-then-is_counted-clause-read
returns-then-is_counted-clause-read c =
    let long : length (map data_tree c.in_ok-data_segments.data_segments) ≡ c.len.result = omega (arith, length-map c.in_ok-data_segments.data_segments data_tree, c.len.ensures) in
    record {
      start = c.in_ok-start.ensures.read;
      element_segments = c.in_ok-element_segments.ensures.read;
      data_segments = c.in_ok-data_segments.ensures.read;
      data_count = rw long (c.is_counted.ensures.0 c.if-is_counted.true);
    }
