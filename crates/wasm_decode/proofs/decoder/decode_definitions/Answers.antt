use Rattle.std.proofs.Common.{List, map}
use Rattle.std.proofs.lemmas.List.{map-id}
use Rattle.wasm_spec.specs.TypeGrammar.{TakesFuncType, TakesTableType, TakesLimits}
use Rattle.wasm_spec.specs.Grammar.{TakesGlobal, Section, section, SpellsVec}
use Rattle.wasm_decode.specs.Sections.{section_of}
use Rattle.wasm_decode.specs.Fields.{SpellsFunctions, SpellsDefinitions}
use Rattle.wasm_decode.proofs.Fields.{exits-part, exits-wanted, wants-some}
use Rattle.wasm_decode.proofs.decoder.decode_definitions.Goals as goal

pub returns-in_err-types-clause-read : goal.returns-in_err-types-clause-read
returns-in_err-types-clause-read c =
    let ss : List Section = map section_of c.args.sections.now in
    exits-part (λ xs. SpellsVec TakesFuncType xs (section 1 ss)) (SpellsDefinitions c.args.profile ss) c.from_residual.result _ c.in_err-types.field-0.0 c.from_residual.ensures.1 c.in_err-types.ensures.read (λ d h. (d.types, h.types))

pub returns-in_err-functions-clause-read : goal.returns-in_err-functions-clause-read
returns-in_err-functions-clause-read c =
    let ss : List Section = map section_of c.args.sections.now in
    exits-part (SpellsFunctions c.args.profile ss) (SpellsDefinitions c.args.profile ss) c.from_residual-in_err-functions.result _ c.in_err-functions.field-0.0 c.from_residual-in_err-functions.ensures.1 c.in_err-functions.ensures.read (λ d h. (d.functions, h.functions))

pub returns-in_err-tables-clause-read : goal.returns-in_err-tables-clause-read
returns-in_err-tables-clause-read c =
    let ss : List Section = map section_of c.args.sections.now in
    exits-part (λ ls. SpellsVec TakesTableType ls (section 4 ss)) (SpellsDefinitions c.args.profile ss) c.from_residual-in_err-tables.result _ c.in_err-tables.field-0.0 c.from_residual-in_err-tables.ensures.1 c.in_err-tables.ensures.read (λ d h. (d.tables, h.tables))

pub returns-in_err-memories-clause-read : goal.returns-in_err-memories-clause-read
returns-in_err-memories-clause-read c =
    let ss : List Section = map section_of c.args.sections.now in
    exits-part (λ xs. SpellsVec TakesLimits xs (section 5 ss)) (SpellsDefinitions c.args.profile ss) c.from_residual-in_err-memories.result _ c.in_err-memories.field-0.0 c.from_residual-in_err-memories.ensures.1 c.in_err-memories.ensures.read (λ d h. (d.memories, h.memories))

pub returns-in_err-globals-clause-read : goal.returns-in_err-globals-clause-read
returns-in_err-globals-clause-read c =
    let ss : List Section = map section_of c.args.sections.now in
    exits-part (λ xs. SpellsVec (TakesGlobal c.args.profile) xs (section 6 ss)) (SpellsDefinitions c.args.profile ss) c.from_residual-in_err-globals.result _ c.in_err-globals.field-0.0 c.from_residual-in_err-globals.ensures.1 c.in_err-globals.ensures.read (λ d h. (d.globals, h.globals))

pub returns-clause-read : goal.returns-clause-read
returns-clause-read c =
    record {
      types = simp map-id at c.in_ok-types.ensures.read;
      functions = c.in_ok-functions.ensures.read;
      tables = c.in_ok-tables.ensures.read;
      memories = simp map-id at c.in_ok-memories.ensures.read;
      globals = c.in_ok-globals.ensures.read;
    }

pub returns-in_err-types-clause-wanted : goal.returns-in_err-types-clause-wanted
returns-in_err-types-clause-wanted c e = wants-some _ _ 1 c.args.sections.now (exits-wanted c.from_residual.result c.in_err-types.field-0.0 _ c.from_residual.ensures.1 c.in_err-types.ensures.wanted e)

pub returns-in_err-functions-clause-wanted : goal.returns-in_err-functions-clause-wanted
returns-in_err-functions-clause-wanted c e = exits-wanted c.from_residual-in_err-functions.result c.in_err-functions.field-0.0 _ c.from_residual-in_err-functions.ensures.1 c.in_err-functions.ensures.wanted e

pub returns-in_err-tables-clause-wanted : goal.returns-in_err-tables-clause-wanted
returns-in_err-tables-clause-wanted c e = exits-wanted c.from_residual-in_err-tables.result c.in_err-tables.field-0.0 _ c.from_residual-in_err-tables.ensures.1 c.in_err-tables.ensures.wanted e

pub returns-in_err-memories-clause-wanted : goal.returns-in_err-memories-clause-wanted
returns-in_err-memories-clause-wanted c e = wants-some _ _ 5 c.args.sections.now (exits-wanted c.from_residual-in_err-memories.result c.in_err-memories.field-0.0 _ c.from_residual-in_err-memories.ensures.1 c.in_err-memories.ensures.wanted e)

pub returns-in_err-globals-clause-wanted : goal.returns-in_err-globals-clause-wanted
returns-in_err-globals-clause-wanted c e = wants-some _ _ 6 c.args.sections.now (exits-wanted c.from_residual-in_err-globals.result c.in_err-globals.field-0.0 _ c.from_residual-in_err-globals.ensures.1 c.in_err-globals.ensures.wanted e)
