use Rattle.std.proofs.Common.{ap, arith}
use Rattle.pool_core.specs.PoolCore.{is_live}
use Rattle.slot_words.specs.Passes.{Home}
use Rattle.slot_words.proofs.Allowed.{await_downs_allowed}
use Rattle.slot_words.proofs.CoreLaws.{laws_of}
use Rattle.slot_words.proofs.Lookups.{number_held}
use Rattle.slot_words.proofs.words.Words.await_down.Goals as goal

pub fetch_sub-requires : goal.fetch_sub-requires
fetch_sub-requires g c = let w = c.args.self.now in let own = c.requires.own in let n = number_held _ c.requires.holds in (
  ap (λ (h : Home). h.table) own,
  omega (arith, w.words_are),
  await_downs_allowed (laws_of c.core_laws.ensures) g.V.Pooled.fits _ _ _ _ n.0 _ w.slots_are (ap (λ (h : Home). is_live h.stage) own) n.1 c.requires.some,
)
