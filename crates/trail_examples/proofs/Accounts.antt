-- What operations account for, in whatever order they came: a pool of one slot, and the counts that they leave.
use Rattle.std.proofs.Common.{◌≡◌, ℕ, ◌+◌, zero, suc, Bool, true, false, ◌==◌, List, [], ◌∷◌, length, refl, sym, ap, ◌∙◌, arith, eqb-true}
use Rattle.std.specs.Prelude.{slice_index_or}
use Rattle.std.proofs.lemmas.Bool.Decides.{nat_tests}
use Rattle.pool_core.specs.declared.words.StateWord.{StateWord}
use Rattle.pool_core.specs.declared.events.Event.TheVariants as event
use Rattle.pool_core.specs.StateWords.{bit, cold_word, is_well_formed, packed, unpacked}
use Rattle.pool_core.specs.PoolCore.{PoolCore}
use Rattle.pool_core.specs.Runs.{core_after_all}
use Rattle.pool_core.proofs.WordBits.{bits_say_the_word}
use Rattle.slot_words.specs.declared.kinds.KindCounts.{KindCounts}
use Rattle.slot_words.specs.declared.views.Operation.{Operation}
use Rattle.slot_words.specs.declared.views.Operation.TheVariants.{Claim, Release, Stamp}
use Rattle.slot_words.specs.Accounts.{AreAccounts, AreLeft}
use Rattle.slot_words.specs.Closing.{CountsLeft}
use Rattle.slot_words.specs.KindCounts.{kind_counts}
use Rattle.trail_examples.proofs.Closings.{one_cold, one_held}
use Rattle.trail_examples.proofs.SlotWords.{cold, one_slot, warm_5}

-- the slot is claimed, and given back warm
abbrev claimed : List Operation
claimed = Claim 0 cold ∷ []

abbrev given_back : List Operation
given_back = Claim 0 cold ∷ Release 0 warm_5 ∷ []

abbrev held : PoolCore
held = core_after_all one_slot (event.Claim 0 0 ∷ [])

claim_takes_the_word : AreLeft claimed held.words
claim_takes_the_word zero bits within even = grind (arith, nat_tests)
claim_takes_the_word (suc n) bits within even = absurd (omega arith)

claim_accounts_for_a_held_slot : AreAccounts claimed held
claim_accounts_for_a_held_slot = record { left = claim_takes_the_word; kept = refl; clock_is = refl }

claimed_slot_is_free : AreAccounts claimed one_slot → ⊥
claimed_slot_is_free a = let one : ◌≡◌ {A = ℕ} 1 0 = a.kept in omega (arith, one)

word_given_back_is_lost : AreAccounts given_back one_slot → ⊥
word_given_back_is_lost a = let one : ◌≡◌ {A = ℕ} 1 0 = a.left 0 warm_5 (omega arith) refl in omega (arith, one)

clock_stands : AreAccounts (Claim 0 cold ∷ Stamp 0 ∷ []) held → ⊥
clock_stands a = let none : ◌≡◌ {A = ℕ} 0 1 = a.clock_is in omega (arith, none)

-- ---- counts

claim_leaves_one_held : CountsLeft 1 claimed one_held
claim_leaves_one_held = record { words = held.words; slots_are = refl; well_formed = well_formed; left = claim_takes_the_word; kept = refl; counted = refl }
  where
    well_formed : (n : ℕ) → is_well_formed (slice_index_or held.words n cold_word).target ≡ true
    well_formed zero = refl
    well_formed (suc n) = refl

claim_leaves_one_cold : CountsLeft 1 claimed one_cold → ⊥
claim_leaves_one_cold c = let one : ◌≡◌ {A = ℕ} 1 0 = c.kept in omega (arith, one)

is_one : (b : Bool) → 1 ≡ 0 + bit b → b ≡ true
is_one true one = refl
is_one false one = absurd (omega arith)

-- a slot that was given back warm is not told as cold
warm_slot_is_cold : CountsLeft 1 given_back one_cold → ⊥
warm_slot_is_cold c = counted_cold c.words c.slots_are (c.well_formed 0) (c.left 0 warm_5 (let one = c.slots_are in omega arith) refl) c.counted
  where
    counted_cold : (words : List StateWord) → length words ≡ 1 → is_well_formed (slice_index_or words 0 cold_word).target ≡ true → 1 ≡ 0 + bit (packed (slice_index_or words 0 cold_word) == warm_5) → one_cold ≡ kind_counts words → ⊥
    counted_cold [] one fits left counted = omega arith
    counted_cold (w ∷ []) one fits left counted =
        let is : unpacked warm_5 ≡ w = bits_say_the_word warm_5 w record { packed_is = sym (eqb-true (packed w) warm_5 (is_one _ left)); well_formed = fits } in
        let none : ◌≡◌ {A = ℕ} 1 0 = ap (λ (k : KindCounts). k.cold) counted ∙ ap (λ (v : StateWord). (kind_counts (v ∷ [])).cold) (sym is) in omega (arith, none)
    counted_cold (w ∷ v ∷ ws) one fits left counted = omega arith
