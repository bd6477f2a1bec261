use Rattle.std.proofs.Common.{refl}
use Rattle.wasm_spec.specs.InstrGrammar.{shape}
use Rattle.opcode_index.proofs.laws.profile_2_has_six_bytes_more.Goals as goal

pub returns-clause-rows : goal.returns-clause-rows
unfolding shape
returns-clause-rows c = refl

pub returns-clause-others : goal.returns-clause-others
unfolding shape
returns-clause-others c = refl

pub returns-clause-all : goal.returns-clause-all
returns-clause-all c = refl
