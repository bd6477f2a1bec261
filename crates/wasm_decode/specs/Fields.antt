-- The parts of a module that are read on their own, as trees, and what the sections say of each.
use Rattle.std.specs.Prelude.{ℕ, List, Option, length, map}
use Rattle.wasm_values.specs.declared.profile.Profile.{Profile}
use Rattle.wasm_types.specs.declared.types.FuncType.{FuncType}
use Rattle.wasm_types.specs.declared.types.Limits.{Limits}
use Rattle.wasm_types.specs.Tree.{FunctionTree, GlobalTree, ElementTree, DataTree, function_tree, global_tree, element_tree, data_tree}
use Rattle.wasm_spec.specs.Numbers.{TakesUnsigned}
use Rattle.wasm_spec.specs.TypeGrammar.{TakesFuncType, TakesTableType, TakesLimits}
use Rattle.wasm_spec.specs.Grammar.{Section, section, SpellsVec, SpellsStart, SpellsCount, TakesGlobal, TakesElement, TakesSizedBody, TakesData, body_of}
use Rattle.wasm_decode.specs.declared.decoder.Definitions.{Definitions}
use Rattle.wasm_decode.specs.declared.decoder.Initialization.{Initialization}

pub record DefinitionsTree : Type 0 where
  pub types : List FuncType
  pub functions : List FunctionTree
  pub tables : List Limits
  pub memories : List Limits
  pub globals : List GlobalTree

abbrev pub definitions_tree : Definitions → DefinitionsTree
definitions_tree d = record {
  types = d.types;
  functions = map function_tree d.functions;
  tables = d.tables;
  memories = d.memories;
  globals = map global_tree d.globals;
}

pub record InitializationTree : Type 0 where
  pub start : Option ℕ
  pub element_segments : List ElementTree
  pub data_segments : List DataTree

abbrev pub initialization_tree : Initialization → InitializationTree
initialization_tree i = record {
  start = i.start;
  element_segments = map element_tree i.element_segments;
  data_segments = map data_tree i.data_segments;
}

-- the function section has the functions' types, and the code section their bodies
pub record SpellsFunctions (profile : Profile) (sections : List Section) (fs : List FunctionTree) : Type 0 where
  pub types : SpellsVec (TakesUnsigned 32) (map (λ (f : FunctionTree). f.type_index) fs) (section 3 sections)
  pub bodies : SpellsVec (TakesSizedBody profile) (map body_of fs) (section 10 sections)

pub record SpellsDefinitions (profile : Profile) (sections : List Section) (d : DefinitionsTree) : Type 0 where
  pub types : SpellsVec TakesFuncType d.types (section 1 sections)
  pub functions : SpellsFunctions profile sections d.functions
  pub tables : SpellsVec TakesTableType d.tables (section 4 sections)
  pub memories : SpellsVec TakesLimits d.memories (section 5 sections)
  pub globals : SpellsVec (TakesGlobal profile) d.globals (section 6 sections)

-- the data count section says how many data segments there are
pub record SpellsInitialization (profile : Profile) (sections : List Section) (i : InitializationTree) : Type 0 where
  pub start : SpellsStart i.start (section 8 sections)
  pub element_segments : SpellsVec (TakesElement profile) i.element_segments (section 9 sections)
  pub data_segments : SpellsVec (TakesData profile) i.data_segments (section 11 sections)
  pub data_count : SpellsCount (length i.data_segments) (section 12 sections)
