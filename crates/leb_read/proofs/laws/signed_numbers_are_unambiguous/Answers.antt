use Rattle.wasm_spec.proofs.UnambiguousNumbers.{signed-unique}
use Rattle.leb_read.proofs.laws.signed_numbers_are_unambiguous.Goals as goal

pub returns : goal.returns
returns c = signed-unique
