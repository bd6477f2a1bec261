use Rattle.std.proofs.Common.{List, map}
use Rattle.std.proofs.lemmas.List.{map-id}
use Rattle.wasm_spec.specs.Grammar.{TakesImport, TakesExport, Section, section, SpellsVec, SpellsFields}
use Rattle.wasm_decode.specs.Sections.{section_of}
use Rattle.wasm_decode.specs.Fields.{SpellsDefinitions, SpellsInitialization}
use Rattle.wasm_decode.proofs.Fields.{definitions-of, exits-part, exits-wanted, initialization-of, wants-some}
use Rattle.wasm_decode.proofs.decoder.decode_fields.Goals as goal

pub returns-in_err-definitions-clause-read : goal.returns-in_err-definitions-clause-read
returns-in_err-definitions-clause-read c =
    let ss : List Section = map section_of c.args.sections.now in
    exits-part (SpellsDefinitions c.args.profile ss) (SpellsFields c.args.profile ss) c.from_residual-in_err-definitions.result _ c.in_err-definitions.field-0.0 c.from_residual-in_err-definitions.ensures.1 c.in_err-definitions.ensures.read (definitions-of c.args.profile ss)

pub returns-in_err-imports-clause-read : goal.returns-in_err-imports-clause-read
returns-in_err-imports-clause-read c =
    let ss : List Section = map section_of c.args.sections.now in
    exits-part (λ xs. SpellsVec TakesImport xs (section 2 ss)) (SpellsFields c.args.profile ss) c.from_residual.result _ c.in_err-imports.field-0.0 c.from_residual.ensures.1 c.in_err-imports.ensures.read (λ m h. (m.imports, h.imports))

pub returns-in_err-exports-clause-read : goal.returns-in_err-exports-clause-read
returns-in_err-exports-clause-read c =
    let ss : List Section = map section_of c.args.sections.now in
    exits-part (λ xs. SpellsVec TakesExport xs (section 7 ss)) (SpellsFields c.args.profile ss) c.from_residual-in_err-exports.result _ c.in_err-exports.field-0.0 c.from_residual-in_err-exports.ensures.1 c.in_err-exports.ensures.read (λ m h. (m.exports, h.exports))

pub returns-in_err-initialization-clause-read : goal.returns-in_err-initialization-clause-read
returns-in_err-initialization-clause-read c =
    let ss : List Section = map section_of c.args.sections.now in
    exits-part (SpellsInitialization c.args.profile ss) (SpellsFields c.args.profile ss) c.from_residual-in_err-initialization.result _ c.in_err-initialization.field-0.0 c.from_residual-in_err-initialization.ensures.1 c.in_err-initialization.ensures.read (initialization-of c.args.profile ss)

pub returns-clause-read : goal.returns-clause-read
returns-clause-read c =
    let d = c.in_ok-definitions.ensures.read in
    let i = c.in_ok-initialization.ensures.read in
    record {
      types = d.types;
      imports = simp map-id at c.in_ok-imports.ensures.read;
      function_types = d.functions.types;
      tables = d.tables;
      memories = d.memories;
      globals = d.globals;
      exports = simp map-id at c.in_ok-exports.ensures.read;
      start = i.start;
      element_segments = i.element_segments;
      bodies = d.functions.bodies;
      data_segments = i.data_segments;
      data_count = i.data_count;
    }

pub returns-in_err-imports-clause-wanted : goal.returns-in_err-imports-clause-wanted
returns-in_err-imports-clause-wanted c e = wants-some _ _ 2 c.args.sections.now (exits-wanted c.from_residual.result c.in_err-imports.field-0.0 _ c.from_residual.ensures.1 c.in_err-imports.ensures.wanted e)

pub returns-in_err-exports-clause-wanted : goal.returns-in_err-exports-clause-wanted
returns-in_err-exports-clause-wanted c e = wants-some _ _ 7 c.args.sections.now (exits-wanted c.from_residual-in_err-exports.result c.in_err-exports.field-0.0 _ c.from_residual-in_err-exports.ensures.1 c.in_err-exports.ensures.wanted e)

pub returns-in_err-initialization-clause-wanted : goal.returns-in_err-initialization-clause-wanted
returns-in_err-initialization-clause-wanted c e = exits-wanted c.from_residual-in_err-initialization.result c.in_err-initialization.field-0.0 _ c.from_residual-in_err-initialization.ensures.1 c.in_err-initialization.ensures.wanted e

pub returns-in_err-definitions-clause-wanted : goal.returns-in_err-definitions-clause-wanted
returns-in_err-definitions-clause-wanted c e = exits-wanted c.from_residual-in_err-definitions.result c.in_err-definitions.field-0.0 _ c.from_residual-in_err-definitions.ensures.1 c.in_err-definitions.ensures.wanted e
