use Rattle.std.proofs.Common.{arith, ap}
use Rattle.slot_words.specs.Passes.{Home}
use Rattle.slot_words.proofs.Allowed.{joins_allowed}
use Rattle.slot_words.proofs.CoreLaws.{laws_of}
use Rattle.slot_words.proofs.words.Words.join_pass.Goals as goal

pub join_seat-requires : goal.join_seat-requires
join_seat-requires g c = let w = c.args.self.now in let a = c.requires.idle in let b = c.requires.other.1 in (
  ap (λ (h : Home). h.table) c.requires.own,
  ap (λ (h : Home). h.table) c.requires.other.0,
  b.1,
  omega (arith, w.words_are),
  joins_allowed (laws_of c.core_laws.ensures) g.V.Pooled.fits _ _ _ _ _ a.0 b.0,
)
