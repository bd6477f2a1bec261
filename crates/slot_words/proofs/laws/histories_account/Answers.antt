use Rattle.slot_words.proofs.CoreLaws.{laws_of}
use Rattle.slot_words.proofs.HistoryAccounts.{histories_account}
use Rattle.slot_words.proofs.laws.histories_account.Goals as goal

pub returns : goal.returns
returns c = histories_account (laws_of c.core_laws.ensures)
