use Rattle.slot_words.proofs.CoreLaws.{laws_of}
use Rattle.slot_words.proofs.OneCount.{one_count}
use Rattle.slot_words.proofs.laws.one_count_is_left.Goals as goal

pub returns : goal.returns
returns c = one_count (laws_of c.core_laws.ensures)
