use Rattle.std.proofs.Common.{arith, ap, ◌∙◌}
use Rattle.slot_words.specs.Passes.{Home}
use Rattle.slot_words.proofs.Allowed.{releases_allowed, value_back}
use Rattle.slot_words.proofs.CoreLaws.{laws_of}
use Rattle.slot_words.proofs.words.Words.release.Goals as goal

pub store-requires : goal.store-requires
store-requires g c = let w = c.args.self.now in let h = c.requires.number in let e = w.slots_are in let f = w.words_are in let has = c.requires.holds in let v = c.args.pass.now.me.0 in let own = c.requires.own in (
  c.exchange.ensures.0 ∙ ap (λ (h : Home). h.table) own,
  omega arith,
  releases_allowed (laws_of c.core_laws.ensures) g.V.Pooled.fits _ _ _ _ _ _ v c.args.lease.value c.args.to (value_back _ v c.args.lease.number c.args.lease.value c.args.pass.now.me.1 c.exchange.ensures.3 has.1) c.pack-word.ensures.packed_is (omega arith) has.0
      c.requires.target c.requires.fits,
)
