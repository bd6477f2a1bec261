-- What checking a module finds.
use Rattle.std.specs.Prelude.{◌≡◌, ℕ, ◌≤◌, List, All, IfSome, IsSome, length, map}
use Rattle.wasm_types.specs.declared.module.Module.{Module}
use Rattle.wasm_types.specs.Tree.{module_tree, global_tree, element_tree, data_tree}
use Rattle.wasm_values.specs.declared.profile.Profile.TheVariants.{Three}
use Rattle.wasm_spec.specs.Functions.{Imported, callee_type}
use Rattle.wasm_spec.specs.Need.{need}
use Rattle.wasm_validate.specs.ByName.{AreByName}
use Rattle.wasm_validate.specs.Locals.{HaveNoEmptyRun}
use Rattle.wasm_spec.specs.Validity.{IsSupported, IsValid, AreOrdered, IsMemoryType, IsInitialised, IsElementSegment, IsDataSegment, IsStart, IsDefined}

-- valid, but for the functions' code and the names of the exports
pub record HasValidParts (m : Module) : Type 0 where
  pub function_types : All (λ t. length t.results ≤ 1) m.types
  pub imports : All (λ i. IsSome (callee_type (module_tree m) (Imported i))) m.imports
  pub tables : (length m.tables ≤ 1) × All AreOrdered m.tables
  pub memories : (length m.memories ≤ 1) × All IsMemoryType m.memories
  pub globals : All (λ g. IsInitialised (global_tree g)) m.globals
  pub element_segments : All (λ s. IsElementSegment (module_tree m) (element_tree s)) m.element_segments
  pub data_segments : All (λ s. IsDataSegment (module_tree m) (data_tree s)) m.data_segments
  pub start : IfSome m.start (IsStart (module_tree m))
  pub exports : All (λ e. IsDefined (module_tree m) e.desc) m.exports

-- what is kept of a valid module
pub record IsValidated (m : Module) (by_name needs : List ℕ) : Type 0 where
  pub supported : IsSupported Three (module_tree m)
  pub valid : IsValid (module_tree m)
  pub locals : HaveNoEmptyRun m
  pub exports_are : AreByName m.exports by_name
  pub needs_are : needs ≡ map (need (module_tree m)) (module_tree m).functions
