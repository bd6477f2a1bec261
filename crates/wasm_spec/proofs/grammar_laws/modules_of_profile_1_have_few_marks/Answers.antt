use Rattle.wasm_spec.proofs.NarrowModules.{few_marks_of}
use Rattle.wasm_spec.proofs.grammar_laws.modules_of_profile_1_have_few_marks.Goals as goal

pub returns : goal.returns
returns c = few_marks_of
