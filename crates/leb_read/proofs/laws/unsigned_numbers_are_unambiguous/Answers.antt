use Rattle.wasm_spec.proofs.UnambiguousNumbers.{unsigned-unique}
use Rattle.leb_read.proofs.laws.unsigned_numbers_are_unambiguous.Goals as goal

pub returns : goal.returns
returns c = unsigned-unique
