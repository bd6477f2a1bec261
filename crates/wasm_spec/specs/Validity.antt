-- Valid modules: WebAssembly Core Specification 1.0, section 3.4, for modules that import functions alone and use no floats.
use Rattle.std.specs.Prelude.{◌≡◌, ◌≢◌, ℕ, ◌≤◌, List, [], Bool, true, false, ◌||◌, Option, Some, None, length, slice_get, IfSome, IsSome, IsTrue, All, AllPairs, option_and_then, option_map, if◌then◌else◌}
use Rattle.std.specs.List.{list_any}
use Rattle.wasm_types.specs.declared.types.ValType.{ValType}
use Rattle.wasm_types.specs.declared.types.ValType.TheVariants.{F32, F64}
use Rattle.wasm_types.specs.declared.types.FuncType.{FuncType}
use Rattle.wasm_types.specs.declared.types.Limits.{Limits}
use Rattle.wasm_values.specs.declared.outcome.Val.{Val}
use Rattle.wasm_types.specs.declared.instr.Instr.{Instr}
use Rattle.wasm_types.specs.declared.instr.Instr.TheVariants as instr
use Rattle.wasm_types.specs.declared.module.Export.{Export}
use Rattle.wasm_types.specs.declared.module.ExportDesc.{ExportDesc}
use Rattle.wasm_types.specs.declared.module.ExportDesc.TheVariants as desc
use Rattle.wasm_types.specs.declared.module.Import.{Import}
use Rattle.wasm_types.specs.declared.module.ImportDesc.TheVariants as item
use Rattle.wasm_types.specs.declared.host.HostFunction.{HostFunction}
use Rattle.wasm_values.specs.declared.profile.Profile.{Profile}
use Rattle.wasm_values.specs.declared.profile.Profile.TheVariants.{Three}
use Rattle.wasm_types.specs.SameTypes.{same_type}
use Rattle.wasm_types.specs.Tree.{Code, End, Plain, Block, Loop, If, Call, CallIndirect, GlobalTree, ElementTree, DataTree, ModuleTree}
use Rattle.wasm_spec.specs.Functions.{host_function, host_type, Imported, callee_at, callee_type, function_type}
use Rattle.wasm_types.specs.declared.instr.Width.TheVariants.{W32}
use Rattle.wasm_spec.specs.Typing.{type_of, number, result_types, IsTypedFunction}

-- whether code has such an instruction, or a block of such a result
abbrev pub uses_any : (Instr → Bool) → (Option ValType → Bool) → Code → Bool
uses_any is has End = false
uses_any is has (Plain i rest) = is i || uses_any is has rest
uses_any is has (Block t body rest) = has t || uses_any is has body || uses_any is has rest
uses_any is has (Loop t body rest) = has t || uses_any is has body || uses_any is has rest
uses_any is has (If t first second rest) = has t || uses_any is has first || uses_any is has second || uses_any is has rest
uses_any is has (Call x rest) = uses_any is has rest
uses_any is has (CallIndirect x rest) = uses_any is has rest

-- floats: a float type, or an instruction on floats, anywhere in the module (sections 2.3.1 and 2.4.1)
abbrev pub is_float : ValType → Bool
is_float F32 = true
is_float F64 = true
is_float _ = false

abbrev pub has_float : List ValType → Bool
has_float ts = list_any is_float ts

abbrev pub is_float_instruction : Instr → Bool
is_float_instruction instr.Float = true
is_float_instruction _ = false

abbrev pub code_uses_floats : Code → Bool
code_uses_floats code = uses_any is_float_instruction (λ t. has_float (result_types t)) code

abbrev pub uses_floats : ModuleTree → Bool
uses_floats m =
    list_any (λ t. has_float t.params || has_float t.results) m.types
    || list_any (λ f. has_float f.locals || code_uses_floats f.body) m.functions
    || list_any (λ g. is_float g.global_type.value || code_uses_floats g.init) m.globals
    || list_any (λ s. code_uses_floats s.offset) m.element_segments
    || list_any (λ s. code_uses_floats s.offset) m.data_segments

-- an import of a function of the host, whose type, where it is there, is that function's
pub record IsHostImport (m : ModuleTree) (i : Import) : Type 0 where
  pub function : HostFunction
  pub named : host_function i ≡ Some function
  pub type : ℕ
  pub imports : i.desc ≡ item.Func type
  pub same : IfSome (slice_get m.types type) (λ t. IsTrue (same_type t (host_type function)))

-- which imports are run: in profile 3 those of the host's functions, and before it none
abbrev pub AreRunImports : Profile → ModuleTree → Type 0
AreRunImports Three m = All (IsHostImport m) m.imports
AreRunImports _ m = m.imports ≡ []

-- what this host runs: modules that use no floats and import what is run
pub record IsSupported (profile : Profile) (m : ModuleTree) : Type 0 where
  pub imports : AreRunImports profile m
  pub no_float : uses_floats m ≡ false

-- section 3.3.7.2: constant expressions. Those of one instruction are all that a module may have which imports no global.
abbrev pub single_instruction : Code → Option Instr
single_instruction (Plain i End) = Some i
single_instruction _ = None

abbrev pub constant : Instr → Option Val
constant (instr.Const v) = Some v
constant _ = None

-- the value of a global's initialiser, where it is one constant
abbrev pub initial_value : GlobalTree → Option Val
initial_value g = option_and_then constant (single_instruction g.init)

-- the value of an immutable global of type i32
abbrev pub constant_global : GlobalTree → Option ℕ
constant_global g = if g.global_type.mutable then None else option_and_then (number W32) (initial_value g)

-- the value of a segment's offset, where it is one i32.const, or global.get of an immutable i32 global of the module
abbrev pub constant_offset : ModuleTree → Instr → Option ℕ
constant_offset m (instr.Const v) = number W32 v
constant_offset m (instr.GlobalGet x) = option_and_then constant_global (slice_get m.globals x)
constant_offset m _ = None

abbrev pub offset_value : ModuleTree → Code → Option ℕ
offset_value m c = option_and_then (constant_offset m) (single_instruction c)

-- section 3.2.1
abbrev pub AreOrdered : Limits → Type 0
AreOrdered l = IfSome l.max (λ most. l.min ≤ most)

-- section 3.2.4: at most 65,536 pages of 65,536 bytes
pub record IsMemoryType (l : Limits) : Type 0 where
  pub least : l.min ≤ 65536
  pub most : IfSome l.max (λ most. most ≤ 65536)
  pub ordered : AreOrdered l

-- section 3.4.4
abbrev pub IsInitialised : GlobalTree → Type 0
IsInitialised g = option_map type_of (initial_value g) ≡ Some g.global_type.value

-- section 3.4.5
pub record IsElementSegment (m : ModuleTree) (s : ElementTree) : Type 0 where
  pub table : IsSome (slice_get m.tables s.table)
  pub offset : IsSome (offset_value m s.offset)
  pub functions : All (λ x. IsSome (callee_at m x)) s.functions

-- section 3.4.6
pub record IsDataSegment (m : ModuleTree) (s : DataTree) : Type 0 where
  pub memory : IsSome (slice_get m.memories s.memory)
  pub offset : IsSome (offset_value m s.offset)

-- section 3.4.7: the start function takes nothing and gives nothing
pub record IsStart (m : ModuleTree) (x : ℕ) : Type 0 where
  pub type : FuncType
  pub there : function_type m x ≡ Some type
  pub no_params : type.params ≡ []
  pub no_results : type.results ≡ []

-- section 3.4.8: what is exported is there
abbrev pub IsDefined : ModuleTree → ExportDesc → Type 0
IsDefined m (desc.Func x) = IsSome (callee_at m x)
IsDefined m (desc.Table x) = IsSome (slice_get m.tables x)
IsDefined m (desc.Memory x) = IsSome (slice_get m.memories x)
IsDefined m (desc.Global x) = IsSome (slice_get m.globals x)

-- section 3.4.10
pub record IsValid (m : ModuleTree) : Type 0 where
  pub function_types : All (λ t. length t.results ≤ 1) m.types
  pub imports : All (λ i. IsSome (callee_type m (Imported i))) m.imports
  pub functions : All (IsTypedFunction m) m.functions
  pub one_table : length m.tables ≤ 1
  pub table_types : All AreOrdered m.tables
  pub one_memory : length m.memories ≤ 1
  pub memory_types : All IsMemoryType m.memories
  pub globals : All IsInitialised m.globals
  pub element_segments : All (IsElementSegment m) m.element_segments
  pub data_segments : All (IsDataSegment m) m.data_segments
  pub start : IfSome m.start (IsStart m)
  pub exports : All (λ e. IsDefined m e.desc) m.exports
  pub names_differ : AllPairs (λ a b. a.name ≢ b.name) m.exports

-- the function that is exported under a name
pub record Exports (exports : List Export) (name : List ℕ) (x : ℕ) : Type 0 where
  pub place : ℕ
  pub there : slice_get exports place ≡ Some (record { name = name; desc = desc.Func x })
