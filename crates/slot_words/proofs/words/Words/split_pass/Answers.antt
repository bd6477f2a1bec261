use Rattle.std.proofs.Common.{arith}
use Rattle.slot_words.proofs.Allowed.{splits_allowed}
use Rattle.slot_words.proofs.CoreLaws.{laws_of}
use Rattle.slot_words.proofs.words.Words.split_pass.Goals as goal

pub split_seat-requires : goal.split_seat-requires
split_seat-requires g c = let w = c.args.self.now in let m = c.requires.parts in (
  c.requires.own,
  omega (arith, w.words_are),
  splits_allowed (laws_of c.core_laws.ensures) g.V.Pooled.fits _ _ _ c.requires.idle.0 m.0 m.1,
)
