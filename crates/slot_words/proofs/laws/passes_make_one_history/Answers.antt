use Rattle.slot_words.proofs.RuleLaws.{one_history}
use Rattle.slot_words.proofs.laws.passes_make_one_history.Goals as goal

pub returns : goal.returns
returns g c = one_history g.V.Pooled.fits
