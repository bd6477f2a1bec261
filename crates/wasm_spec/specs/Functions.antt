-- What the numbers of functions name (WebAssembly Core Specification 1.0, section 2.5.1): imported functions take the first
-- ones, and the module's own follow.
--
-- A module may import three functions of the host, under the names `len`, `read` and `write` of `host`.
use Rattle.std.specs.Prelude.{ℕ, List, [], ◌∷◌, ◌++◌, Option, Some, None, map, find, slice_get, codes, if◌then◌else◌, option_and_then}
use Rattle.std.specs.Str.{bytes_eq}
use Rattle.wasm_types.specs.declared.host.HostFunction.{HostFunction}
use Rattle.wasm_types.specs.declared.host.HostFunction.TheVariants as host
use Rattle.wasm_types.specs.declared.types.ValType.TheVariants.{I32}
use Rattle.wasm_types.specs.declared.types.FuncType.{FuncType}
use Rattle.wasm_types.specs.declared.module.Import.{Import}
use Rattle.wasm_types.specs.declared.module.ImportDesc.{ImportDesc}
use Rattle.wasm_types.specs.declared.module.ImportDesc.TheVariants as desc
use Rattle.wasm_types.specs.Tree.{FunctionTree, ModuleTree}

-- ---- the functions of the host

-- the name under which each is imported, and its type
abbrev pub host_row : HostFunction → List ℕ × FuncType
host_row host.Len = (codes "len", record { params = []; results = I32 ∷ [] })
host_row host.Read = (codes "read", record { params = I32 ∷ I32 ∷ I32 ∷ []; results = I32 ∷ [] })
host_row host.Write = (codes "write", record { params = I32 ∷ I32 ∷ []; results = I32 ∷ [] })

abbrev pub host_type : HostFunction → FuncType
host_type h = (host_row h).1

abbrev pub host_item : List ℕ → Option HostFunction
host_item name = find (λ h. bytes_eq name (host_row h).0) (host.Len ∷ host.Read ∷ host.Write ∷ [])

-- the function of the host that an import names
abbrev pub host_function : Import → Option HostFunction
host_function i = if bytes_eq i.module_name (codes "host") then host_item i.item_name else None

-- ---- numbers of functions

-- a function that can be called: one that is imported, or one of the module's own
pub data Callee : Type 0 where
  Imported : (i : Import) → Callee
  Own : (f : FunctionTree) → Callee

-- All functions in the order of their numbers. Each import takes one; a module that imports something else is not run.
abbrev pub callees : ModuleTree → List Callee
callees m = map (λ i. Imported i) m.imports ++ map (λ f. Own f) m.functions

abbrev pub callee_at : ModuleTree → ℕ → Option Callee
callee_at m x = slice_get (callees m) x

-- the number of an imported function's type
abbrev pub imported_type : ImportDesc → Option ℕ
imported_type (desc.Func t) = Some t
imported_type _ = None

abbrev pub type_index_of : Callee → Option ℕ
type_index_of (Imported i) = imported_type i.desc
type_index_of (Own f) = Some f.type_index

abbrev pub callee_type : ModuleTree → Callee → Option FuncType
callee_type m c = option_and_then (λ t. slice_get m.types t) (type_index_of c)

-- a function's type
abbrev pub function_type : ModuleTree → ℕ → Option FuncType
function_type m x = option_and_then (callee_type m) (callee_at m x)
