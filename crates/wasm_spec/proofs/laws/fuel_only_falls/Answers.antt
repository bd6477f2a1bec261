use Rattle.wasm_spec.proofs.FuelLaws.{exec-spends}
use Rattle.wasm_spec.proofs.laws.fuel_only_falls.Goals as goal

pub returns : goal.returns
returns c = exec-spends
