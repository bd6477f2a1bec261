use Rattle.wasm_spec.proofs.MoreFuel.{result-more}
use Rattle.wasm_spec.proofs.laws.more_fuel_gives_the_same.Goals as goal

pub returns : goal.returns
returns c = λ m limits x arguments store fuel more e. result-more more m limits x arguments store fuel e
