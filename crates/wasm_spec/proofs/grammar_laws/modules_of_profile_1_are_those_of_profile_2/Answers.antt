use Rattle.wasm_spec.proofs.BothProfiles.{spells_in_both}
use Rattle.wasm_spec.proofs.grammar_laws.modules_of_profile_1_are_those_of_profile_2.Goals as goal

pub returns : goal.returns
returns c = spells_in_both
