-- What settles a slot that was won.
use Rattle.std.proofs.Common.{ℕ, List, [], ◌∷◌, refl, sym, subst}
use Rattle.pool_core.specs.declared.words.StateWord.{StateWord}
use Rattle.pool_core.specs.StateWords.{unpacked}
use Rattle.pool_core.proofs.WordBits.{bits_say_the_word}
use Rattle.slot_words.specs.declared.views.Operation.{Operation}
use Rattle.slot_words.specs.declared.views.Operation.TheVariants.{AwaitDown, WarmDown}
use Rattle.decommit_batch.specs.Settle.{IsSettled, IsSettledFrom}
use Rattle.trail_examples.proofs.SlotWords.{awaiting_5, cold, warm_5}

-- what settles a slot where this was read, by the state that it says
pub by_state : (read : ℕ) (done : List Operation) → IsSettled read done → IsSettledFrom (unpacked read).target.state done
by_state read done (w, is, settled) = subst (λ (v : StateWord). IsSettledFrom v.target.state done) (sym (bits_say_the_word read w is)) settled

pub cold_needs_nothing : IsSettled cold []
cold_needs_nothing = (unpacked cold, record { packed_is = refl; well_formed = refl }, refl)

pub warm_gives_a_permit : (r : ℕ) → IsSettled warm_5 (WarmDown r ∷ [])
warm_gives_a_permit r = (unpacked warm_5, record { packed_is = refl; well_formed = refl }, (r, refl))

awaiting_gives_a_mark : IsSettled awaiting_5 (AwaitDown 1 ∷ [])
awaiting_gives_a_mark = (unpacked awaiting_5, record { packed_is = refl; well_formed = refl }, (1, refl))

warm_keeps_its_permit : IsSettled warm_5 [] → ⊥
warm_keeps_its_permit s = let (r, e) = by_state warm_5 [] s in cc

awaiting_keeps_its_mark : IsSettled awaiting_5 [] → ⊥
awaiting_keeps_its_mark s = let (r, e) = by_state awaiting_5 [] s in cc

awaiting_gives_a_permit : IsSettled awaiting_5 (WarmDown 1 ∷ []) → ⊥
awaiting_gives_a_permit s = let (r, e) = by_state awaiting_5 (WarmDown 1 ∷ []) s in cc

cold_gives_a_permit : IsSettled cold (WarmDown 1 ∷ []) → ⊥
cold_gives_a_permit s = let e = by_state cold (WarmDown 1 ∷ []) s in cc
