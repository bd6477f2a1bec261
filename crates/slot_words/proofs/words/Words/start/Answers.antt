use Rattle.std.proofs.Common.{Some, rules, arith, ◌+◌, ap, ◌∙◌, length, refl}
use Rattle.std.proofs.lemmas.List.{length-map, length-replicate}
use Rattle.slot_words.specs.declared.views.Bounds.{Bounds}
use Rattle.slot_words.proofs.CoreLaws.{laws_of}
use Rattle.slot_words.proofs.Openings.{shows_opening_of}
use Rattle.slot_words.proofs.words.Words.start.Goals as goal

pub new-requires : goal.new-requires
new-requires g c = let r = c.requires.values in let k = c.requires.count in let p = c.requires.passes in
    shows_opening_of (laws_of c.core_laws.ensures) g.V.Pooled.fits _ _ _ r.0 c.args.count
    (c.as_slice.ensures.value ∙ c.in_ok-words.ensures.items_if_clones_equal (λ y e. search rules)) r.1 r.2 p.0 (omega arith) r.3

pub returns-in-Ok : goal.returns-in-Ok
returns-in-Ok g c = let made = c.in-Ok.ensures.ok in record { words = (made.5, refl); pass = (made.2, made.4) }

pub invariant_of-result : goal.invariant_of-result
invariant_of-result g c = let made = c.in-Ok.ensures.ok in let r = c.requires.values in let k = c.requires.count in record {
  words_are = made.0 ∙ ap length (c.as_slice.ensures.value ∙ c.in_ok-words.ensures.items_if_clones_equal (λ y e. search rules)) ∙ length-replicate (c.args.count + 3) 0;
  slots_are = made.1 ∙ ap length r.1 ∙ length-map r.0 Some ∙ r.2;
  limit_is = ap (λ (b : Bounds). b.limit) made.5;
  some_slots = k.0;
  few_slots = k.1;
}
