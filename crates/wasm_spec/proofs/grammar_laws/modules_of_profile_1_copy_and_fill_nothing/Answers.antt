use Rattle.wasm_spec.proofs.NarrowModules.{spelled_narrow}
use Rattle.wasm_spec.proofs.grammar_laws.modules_of_profile_1_copy_and_fill_nothing.Goals as goal

pub returns : goal.returns
returns c = spelled_narrow
