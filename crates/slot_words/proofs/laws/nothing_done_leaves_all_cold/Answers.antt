use Rattle.slot_words.proofs.CoreLaws.{laws_of}
use Rattle.slot_words.proofs.OneCount.{nothing_done}
use Rattle.slot_words.proofs.laws.nothing_done_leaves_all_cold.Goals as goal

pub returns : goal.returns
returns c = nothing_done (laws_of c.core_laws.ensures)
