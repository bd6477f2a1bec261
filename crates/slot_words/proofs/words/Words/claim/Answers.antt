use Rattle.std.proofs.Common.{rules, arith, sym, ap, ◌∙◌, ◌∷◌, Some}
use Rattle.atomic_table.specs.Table.{rest}
use Rattle.slot_words.specs.Passes.{Home}
use Rattle.slot_words.proofs.Allowed.{claims_allowed, claim_won}
use Rattle.slot_words.proofs.CoreLaws.{laws_of}
use Rattle.slot_words.proofs.words.Words.claim.Goals as goal

pub fetch_or-read-requires : goal.fetch_or-read-requires
fetch_or-read-requires g c = let w = c.args.self.now in let h = c.requires.number in let e = w.slots_are in let f = w.words_are in (
  ap (λ (h : Home). h.table) c.requires.own,
  omega arith,
  claims_allowed (laws_of c.core_laws.ensures) g.V.Pooled.fits _ _ _ _ _ (omega arith) c.requires.idle.0,
)

pub exchange-requires : goal.exchange-requires
exchange-requires g c =
    let won = claim_won (laws_of c.core_laws.ensures) g.V.Pooled.fits _ _ _ _ c.fetch_or-read.ensures.2 c.if-read-eq1.false in
    let x = won.3.1.0 in let has = won.3.1.1 in
    (search rules, (Some x, has ∙ (λ i. (c.args.n, Some x) ∷ sym (ap rest has) i)))
