use Rattle.wasm_spec.proofs.WithinLemmas.{loaded-within}
use Rattle.wasm_spec.proofs.laws.a_loaded_module_is_within_its_limits.Goals as goal

pub returns : goal.returns
returns c = loaded-within
