use Rattle.std.proofs.Common.{ap, arith}
use Rattle.pool_core.specs.PoolCore.{is_live}
use Rattle.slot_words.specs.Passes.{Home}
use Rattle.slot_words.proofs.Allowed.{await_loads_allowed}
use Rattle.slot_words.proofs.CoreLaws.{laws_of}
use Rattle.slot_words.proofs.words.Words.await_load.Goals as goal

pub load-requires : goal.load-requires
load-requires g c = let w = c.args.self.now in let own = c.requires.own in (
  ap (λ (h : Home). h.table) own,
  omega (arith, w.words_are),
  await_loads_allowed (laws_of c.core_laws.ensures) g.V.Pooled.fits _ _ _ _ _ w.slots_are (ap (λ (h : Home). is_live h.stage) own),
)
