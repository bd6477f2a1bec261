-- Modules in the binary format, by profile. Source: WebAssembly Core Specification 1.0, section 5.5; for the section that
-- profile 2 adds, version 2.0, section 5.5.16.
use Rattle.std.specs.Prelude.{◌≡◌, ℕ, ◌<◌, ◌≤◌, ◌^◌, ◌⊎◌, ◌==◌, ◌*◌, if◌then◌else◌, List, [], ◌∷◌, length, map, flat_map, find, Option, Some, None}
use Rattle.wasm_values.specs.declared.profile.Profile.{Profile}
use Rattle.wasm_values.specs.declared.profile.Profile.TheVariants.{One}
use Rattle.wasm_types.specs.declared.types.ValType.{ValType}
use Rattle.wasm_types.specs.declared.module.LocalRun.{LocalRun}
use Rattle.wasm_types.specs.declared.module.Import.{Import}
use Rattle.wasm_types.specs.declared.module.ImportDesc.{ImportDesc}
use Rattle.wasm_types.specs.declared.module.ImportDesc.TheVariants as import
use Rattle.wasm_types.specs.declared.module.Export.{Export}
use Rattle.wasm_types.specs.declared.module.ExportDesc.{ExportDesc}
use Rattle.wasm_types.specs.declared.module.ExportDesc.TheVariants as export
use Rattle.wasm_types.specs.Tree.{Code, FunctionTree, GlobalTree, ElementTree, DataTree, ModuleTree, locals_of}
use Rattle.wasm_spec.specs.Numbers.{TakesUnsigned, Behind, TakesEach, TakesVec, TakesBytes, TakesName}
use Rattle.wasm_spec.specs.TypeGrammar.{TakesValType, TakesFuncType, TakesLimits, TakesTableType, TakesGlobalType}
use Rattle.wasm_spec.specs.InstrGrammar.{TakesExpr}

-- section 5.5.5
abbrev pub TakesImportDesc : ImportDesc → List ℕ → List ℕ → Type 0
TakesImportDesc (import.Func x) bytes rest = Behind 0 (λ after. TakesUnsigned 32 x after rest) bytes
TakesImportDesc (import.Table t) bytes rest = Behind 1 (λ after. TakesTableType t after rest) bytes
TakesImportDesc (import.Memory m) bytes rest = Behind 2 (λ after. TakesLimits m after rest) bytes
TakesImportDesc (import.Global g) bytes rest = Behind 3 (λ after. TakesGlobalType g after rest) bytes

pub record TakesImport (i : Import) (bytes rest : List ℕ) : Type 0 where
  pub after_module : List ℕ
  pub after_item : List ℕ
  pub module_name : TakesName i.module_name bytes after_module
  pub item_name : TakesName i.item_name after_module after_item
  pub desc : TakesImportDesc i.desc after_item rest

-- section 5.5.9
pub record TakesGlobal (profile : Profile) (g : GlobalTree) (bytes rest : List ℕ) : Type 0 where
  pub mid : List ℕ
  pub global_type : TakesGlobalType g.global_type bytes mid
  pub init : TakesExpr profile g.init mid rest

-- section 5.5.10
abbrev pub TakesExportDesc : ExportDesc → List ℕ → List ℕ → Type 0
TakesExportDesc (export.Func x) bytes rest = Behind 0 (λ after. TakesUnsigned 32 x after rest) bytes
TakesExportDesc (export.Table x) bytes rest = Behind 1 (λ after. TakesUnsigned 32 x after rest) bytes
TakesExportDesc (export.Memory x) bytes rest = Behind 2 (λ after. TakesUnsigned 32 x after rest) bytes
TakesExportDesc (export.Global x) bytes rest = Behind 3 (λ after. TakesUnsigned 32 x after rest) bytes

pub record TakesExport (e : Export) (bytes rest : List ℕ) : Type 0 where
  pub mid : List ℕ
  pub name : TakesName e.name bytes mid
  pub desc : TakesExportDesc e.desc mid rest

-- section 5.5.12
pub record TakesElement (profile : Profile) (e : ElementTree) (bytes rest : List ℕ) : Type 0 where
  pub after_table : List ℕ
  pub after_offset : List ℕ
  pub table : TakesUnsigned 32 e.table bytes after_table
  pub offset : TakesExpr profile e.offset after_table after_offset
  pub functions : TakesVec (TakesUnsigned 32) e.functions after_offset rest

-- section 5.5.13: so many locals of one type
pub record TakesLocalRun (run : LocalRun) (bytes rest : List ℕ) : Type 0 where
  pub mid : List ℕ
  pub count : TakesUnsigned 32 run.count bytes mid
  pub value : TakesValType run.value mid rest

-- section 5.5.13: a function's locals, fewer than 2 ^ 32, and its instructions
pub record Body : Type 0 where
  pub locals : List ValType
  pub code : Code

pub record TakesBody (profile : Profile) (b : Body) (bytes rest : List ℕ) : Type 0 where
  pub runs : List LocalRun
  pub mid : List ℕ
  pub spelled : TakesVec TakesLocalRun runs bytes mid
  pub locals : b.locals ≡ flat_map locals_of runs
  pub few : length b.locals < 2 ^ 32
  pub code : TakesExpr profile b.code mid rest

-- section 5.5.13: a body, which is as long as its size says
pub record TakesSizedBody (profile : Profile) (b : Body) (bytes rest : List ℕ) : Type 0 where
  pub contents : List ℕ
  pub sized : TakesBytes contents bytes rest
  pub body : TakesBody profile b contents []

abbrev pub body_of : FunctionTree → Body
body_of f = record { locals = f.locals; code = f.body }

-- section 5.5.14
pub record TakesData (profile : Profile) (d : DataTree) (bytes rest : List ℕ) : Type 0 where
  pub after_memory : List ℕ
  pub after_offset : List ℕ
  pub memory : TakesUnsigned 32 d.memory bytes after_memory
  pub offset : TakesExpr profile d.offset after_memory after_offset
  pub contents : TakesBytes d.bytes after_offset rest

-- section 5.5.2: a section's id and its contents
pub record Section : Type 0 where
  pub id : ℕ
  pub contents : List ℕ

-- a section: its id, the size of its contents, and these
pub record TakesSection (s : Section) (bytes rest : List ℕ) : Type 0 where
  pub after : List ℕ
  pub id : bytes ≡ s.id ∷ after
  pub sized : TakesBytes s.contents after rest

-- section 5.5.3: a name, and then any bytes
pub record IsCustom (contents : List ℕ) : Type 0 where
  pub name : List ℕ
  pub after : List ℕ
  pub spelled : TakesName name contents after

-- section 5.5.15: Custom sections stand anywhere. The others stand in the order of their ids; the data count section of
-- profile 2, whose id is 12, stands between the sections 9 and 10.
abbrev pub last_id : Profile → ℕ
last_id One = 11
last_id _ = 12

abbrev pub place : ℕ → ℕ
place id = if id == 12 then 19 else id * 2

abbrev pub IsOrderedAbove : Profile → ℕ → List Section → Type 0
IsOrderedAbove profile low [] = Unit {0}
IsOrderedAbove profile low (s ∷ sections) =
    ((s.id ≡ 0) × IsCustom s.contents × IsOrderedAbove profile low sections)
    ⊎ ((low < place s.id) × (s.id ≤ last_id profile) × IsOrderedAbove profile (place s.id) sections)

-- the section of an id
abbrev pub section : ℕ → List Section → Option Section
section id sections = find (λ s. s.id == id) sections

-- the contents of a section are a vector; without the section there are no items
abbrev pub SpellsVec : {A : Type 0} → (A → List ℕ → List ℕ → Type 0) → List A → Option Section → Type 0
SpellsVec Takes xs None = xs ≡ []
SpellsVec Takes xs (Some s) = TakesVec Takes xs s.contents []

-- section 5.5.11
abbrev pub SpellsStart : Option ℕ → Option Section → Type 0
SpellsStart start None = start ≡ None
SpellsStart start (Some s) = (x : ℕ) × (start ≡ Some x) × TakesUnsigned 32 x s.contents []

-- the data count section says how many data segments there are
abbrev pub SpellsCount : ℕ → Option Section → Type 0
SpellsCount n None = Unit {0}
SpellsCount n (Some s) = TakesUnsigned 32 n s.contents []

-- section 5.5.15: what the sections say of a module; the function section has the functions' types, and the code section
-- their bodies
pub record SpellsFields (profile : Profile) (sections : List Section) (m : ModuleTree) : Type 0 where
  pub types : SpellsVec TakesFuncType m.types (section 1 sections)
  pub imports : SpellsVec TakesImport m.imports (section 2 sections)
  pub function_types : SpellsVec (TakesUnsigned 32) (map (λ f. f.type_index) m.functions) (section 3 sections)
  pub tables : SpellsVec TakesTableType m.tables (section 4 sections)
  pub memories : SpellsVec TakesLimits m.memories (section 5 sections)
  pub globals : SpellsVec (TakesGlobal profile) m.globals (section 6 sections)
  pub exports : SpellsVec TakesExport m.exports (section 7 sections)
  pub start : SpellsStart m.start (section 8 sections)
  pub element_segments : SpellsVec (TakesElement profile) m.element_segments (section 9 sections)
  pub bodies : SpellsVec (TakesSizedBody profile) (map body_of m.functions) (section 10 sections)
  pub data_segments : SpellsVec (TakesData profile) m.data_segments (section 11 sections)
  pub data_count : SpellsCount (length m.data_segments) (section 12 sections)

-- section 5.5.15: the magic bytes, the version, and sections up to the end
pub record Spells (profile : Profile) (bytes : List ℕ) (m : ModuleTree) : Type 0 where
  pub after : List ℕ
  pub sections : List Section
  pub header : bytes ≡ 0x00 ∷ 0x61 ∷ 0x73 ∷ 0x6D ∷ 0x01 ∷ 0x00 ∷ 0x00 ∷ 0x00 ∷ after
  pub whole : TakesEach TakesSection sections after []
  pub ordered : IsOrderedAbove profile 0 sections
  pub fields : SpellsFields profile sections m
