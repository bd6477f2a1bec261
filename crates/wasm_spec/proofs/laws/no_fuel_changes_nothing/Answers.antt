use Rattle.wasm_spec.proofs.ResultLaws.{result-at_zero}
use Rattle.wasm_spec.proofs.laws.no_fuel_changes_nothing.Goals as goal

pub returns : goal.returns
returns c = result-at_zero
