-- Faults of functions as faults of their module.
use Rattle.wasm_checker.specs.declared.fault.CheckFault.{CheckFault}
use Rattle.wasm_checker.specs.declared.fault.CheckFault.TheVariants as check
use Rattle.wasm_validate.specs.declared.valid.ValidFault.{ValidFault}
use Rattle.wasm_validate.specs.declared.valid.ValidFault.TheVariants.{Invalid, NoMemory}

abbrev pub valid_fault : CheckFault → ValidFault
valid_fault check.Invalid = Invalid
valid_fault check.NoMemory = NoMemory
