use Rattle.std.proofs.Common.{ap, arith}
use Rattle.pool_core.specs.PoolCore.{is_live}
use Rattle.slot_words.specs.Passes.{Home}
use Rattle.slot_words.proofs.Allowed.{loads_allowed}
use Rattle.slot_words.proofs.CoreLaws.{laws_of}
use Rattle.slot_words.proofs.words.Words.load.Goals as goal

pub load-requires : goal.load-requires
load-requires g c = let w = c.args.self.now in let own = c.requires.own in (
  ap (λ (h : Home). h.table) own,
  (let e = w.words_are in let h = c.requires.number in omega arith),
  loads_allowed (laws_of c.core_laws.ensures) g.V.Pooled.fits _ _ _ _ _ (let e = w.slots_are in let h = c.requires.number in omega arith) (ap (λ (h : Home). is_live h.stage) own),
)
