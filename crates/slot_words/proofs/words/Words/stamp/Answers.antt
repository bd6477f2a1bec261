use Rattle.std.proofs.Common.{ap, arith}
use Rattle.pool_core.specs.PoolCore.{is_live}
use Rattle.slot_words.specs.Passes.{Home}
use Rattle.slot_words.proofs.Allowed.{stamps_allowed}
use Rattle.slot_words.proofs.CoreLaws.{laws_of}
use Rattle.slot_words.proofs.Lookups.{number_held}
use Rattle.slot_words.proofs.words.Words.stamp.Goals as goal

pub fetch_add-read-requires : goal.fetch_add-read-requires
fetch_add-read-requires g c = let w = c.args.self.now in let own = c.requires.own in let n = number_held _ c.requires.holds in (
  ap (λ (h : Home). h.table) own,
  omega (arith, w.words_are),
  stamps_allowed (laws_of c.core_laws.ensures) g.V.Pooled.fits _ _ _ _ n.0 _ w.slots_are (ap (λ (h : Home). is_live h.stage) own) n.1,
)
