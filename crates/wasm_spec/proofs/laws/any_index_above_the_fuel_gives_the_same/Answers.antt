use Rattle.wasm_spec.proofs.FuelLaws.{within-exec}
use Rattle.wasm_spec.proofs.laws.any_index_above_the_fuel_gives_the_same.Goals as goal

pub returns : goal.returns
returns c = λ m limits depth code s fuel n lt. within-exec m limits n code depth s fuel lt
