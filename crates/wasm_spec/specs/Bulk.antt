-- Modules that copy or fill parts of their memory, of which profile 1 has none, and modules whose instructions mark few blocks.
use Rattle.std.specs.Prelude.{◌≡◌, ◌≢◌, Bool, true, false, Some, All}
use Rattle.std.specs.List.{list_any}
use Rattle.wasm_types.specs.declared.instr.Instr.{Instr}
use Rattle.wasm_types.specs.declared.instr.Instr.TheVariants as instr
use Rattle.wasm_types.specs.declared.host.HostFunction.TheVariants as host
use Rattle.wasm_types.specs.Tree.{Code, ModuleTree}
use Rattle.wasm_spec.specs.Functions.{host_function}
use Rattle.wasm_spec.specs.Validity.{uses_any}

-- instructions that write a part of any length
abbrev pub is_bulk : Instr → Bool
is_bulk instr.MemoryCopy = true
is_bulk instr.MemoryFill = true
is_bulk _ = false

abbrev pub code_uses_bulk : Code → Bool
code_uses_bulk code = uses_any is_bulk (λ t. false) code

abbrev pub uses_bulk : ModuleTree → Bool
uses_bulk m = list_any (λ f. code_uses_bulk f.body) m.functions

-- a module whose instructions mark at most two blocks each: it copies and fills nothing, and does not import `read`, by which
-- alone the host writes to its memory
pub record HasFewMarks (m : ModuleTree) : Type 0 where
  pub imports : All (λ i. host_function i ≢ Some host.Read) m.imports
  pub bulk : uses_bulk m ≡ false
