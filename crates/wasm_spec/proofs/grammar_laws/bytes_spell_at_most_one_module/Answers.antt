use Rattle.wasm_spec.proofs.UnambiguousModules.{spells-unique}
use Rattle.wasm_spec.proofs.grammar_laws.bytes_spell_at_most_one_module.Goals as goal

pub returns : goal.returns
returns c = spells-unique
