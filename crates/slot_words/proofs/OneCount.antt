-- The same operations leave the same counts.
use Rattle.std.proofs.Common.{◌≡◌, ℕ, suc, ◌+◌, ◌*◌, ◌%◌, ◌<◌, ◌⊎◌, inl, inr, ⊎_elim, Bool, true, false, List, [], ◌∷◌, length, replicate, get_or, refl, sym, ap, ◌∙◌, subst, arith, lt_of_not-le}
use mathlib.Core.Logic.{dite}
use native.Mathlib.Decide.{dec_le}
use Rattle.std.specs.Prelude.{◌==◌}
use Rattle.std.specs.List.{count_by}
use Rattle.std.proofs.lemmas.Bool.Decides.{nat_tests}
use Rattle.std.proofs.lemmas.List.{get_or_past, length-replicate}
use Rattle.std.proofs.lemmas.List.Folds.{sum_by-replicate}
use Rattle.std.proofs.lemmas.List.Sums.{sum_by-cons}
use Rattle.pool_core.specs.declared.words.StateWord.{StateWord}
use Rattle.pool_core.specs.StateWords.{bit, cold_word, packed, is_well_formed}
use Rattle.pool_core.specs.Lawful.{is_free_warm, is_free_awaiting}
use Rattle.slot_words.specs.declared.kinds.KindCounts.{KindCounts}
use Rattle.slot_words.specs.declared.views.Operation.{Operation}
use Rattle.slot_words.specs.CoreLaws.{CoreLaws}
use Rattle.slot_words.specs.KindCounts.{is_free_cold, is_held}
use Rattle.slot_words.specs.Accounts.{AreLeft}
use Rattle.slot_words.specs.Closing.{CountsLeft}

-- two words are counted alike
abbrev AreAlike : StateWord → StateWord → Type 0
AreAlike w v = (w ≡ v) ⊎ ((w.held ≡ true) × (v.held ≡ true))

counts_alike : (p : StateWord → Bool) (ws vs : List StateWord) → ((w v : StateWord) → w.held ≡ true → v.held ≡ true → p w ≡ p v) → length ws ≡ length vs
    → ((n : ℕ) → AreAlike (get_or ws n cold_word) (get_or vs n cold_word)) → count_by p ws ≡ count_by p vs
counts_alike p [] [] held len alike = refl
counts_alike p [] (v ∷ vs) held len alike = absurd (omega arith)
counts_alike p (w ∷ ws) [] held len alike = absurd (omega arith)
counts_alike p (w ∷ ws) (v ∷ vs) held len alike =
    let rest = counts_alike p ws vs held (omega arith) (λ n. alike (suc n)) in
    let same : bit (p w) ≡ bit (p v) = ⊎_elim (λ (e : w ≡ v). ap (λ (u : StateWord). bit (p u)) e) (λ (h : (w.held ≡ true) × (v.held ≡ true)). ap bit (held w v h.0 h.1)) (alike 0) in
    let a = sum_by-cons (λ (u : StateWord). bit (p u)) w ws in let b = sum_by-cons (λ (u : StateWord). bit (p u)) v vs in omega arith

same_bits : (a b : ℕ) → bit (a == b) ≡ 1 → a ≡ b
same_bits a b e = grind (arith, nat_tests)

bits_same : (a : ℕ) → bit (a == a) ≡ 1
bits_same a = grind (arith, nat_tests)

module _ (laws : CoreLaws) where
  -- a free word that is left in one list is left in the other
  left_alike : (done : List Operation) (ws vs : List StateWord) (n : ℕ) → n < length ws → length ws ≡ length vs → AreLeft done ws → AreLeft done vs
      → is_well_formed (get_or ws n cold_word).target ≡ true → is_well_formed (get_or vs n cold_word).target ≡ true → (get_or ws n cold_word).held ≡ false → get_or ws n cold_word ≡ get_or vs n cold_word
  left_alike done ws vs n h len left left' well well' free = let w : StateWord = get_or ws n cold_word in let v : StateWord = get_or vs n cold_word in
      let even : packed w % 2 ≡ 0 = laws.bit_says w ∙ ap bit free in
      let a = left n (packed w) h even in let b = left' n (packed w) (omega arith) even in let c = bits_same (packed w) in
      let same : packed v ≡ packed w = same_bits (packed v) (packed w) (omega arith) in
      laws.one_word (packed w) w v record { packed_is = refl; well_formed = well } record { packed_is = sym same; well_formed = well' }

  words_alike : (slots : ℕ) (done : List Operation) (k l : KindCounts) → (a : CountsLeft slots done k) → (b : CountsLeft slots done l) → (n : ℕ) → AreAlike (get_or a.words n cold_word) (get_or b.words n cold_word)
  words_alike slots done k l a b n = let w : StateWord = get_or a.words n cold_word in let v : StateWord = get_or b.words n cold_word in
      let e = a.slots_are in let e' = b.slots_are in let len : length a.words ≡ length b.words = omega arith in
      dite (dec_le (length a.words) n)
      (λ past. inl (get_or_past a.words n cold_word past ∙ sym (get_or_past b.words n cold_word (omega arith))))
      (λ within. let below : n < length a.words = lt_of_not-le within in
      let split : (x y : Bool) → w.held ≡ x → v.held ≡ y → AreAlike w v = elim [
        | false ↦ λ y free _. inl (left_alike done a.words b.words n below len a.left b.left (a.well_formed n) (b.well_formed n) free)
        | true ↦ elim [
          | false ↦ λ _ free. inl (sym (left_alike done b.words a.words n (omega arith) (sym len) b.left a.left (b.well_formed n) (a.well_formed n) free))
          | true ↦ λ h h'. inr (h, h')
        ]
      ] in split w.held v.held refl refl)

  pub one_count : (slots : ℕ) (done : List Operation) (k l : KindCounts) → CountsLeft slots done k → CountsLeft slots done l → k ≡ l
  one_count slots done k l a b = let alike = words_alike slots done k l a b in let len : length a.words ≡ length b.words = a.slots_are ∙ sym b.slots_are in
      a.counted
      ∙ (λ i. record {
        cold = counts_alike is_free_cold a.words b.words (λ w v h h'. rw (h, h') refl) len alike i;
        warm = counts_alike is_free_warm a.words b.words (λ w v h h'. rw (h, h') refl) len alike i;
        awaiting = counts_alike is_free_awaiting a.words b.words (λ w v h h'. rw (h, h') refl) len alike i;
        held = counts_alike is_held a.words b.words (λ w v h h'. h ∙ sym h') len alike i;
      })
      ∙ sym b.counted

  -- the cold words that each slot has at first are what no operation leaves
  all_cold : (slots : ℕ) → CountsLeft slots [] record { cold = slots; warm = 0; awaiting = 0; held = 0 }
  all_cold slots = let words : List StateWord = replicate slots cold_word in
      let none : slots * 0 ≡ 0 = omega arith in let all : slots * 1 ≡ slots = omega arith in record {
        words = words;
        slots_are = length-replicate slots cold_word;
        well_formed = λ n. subst (λ (w : StateWord). is_well_formed w.target ≡ true) (sym (laws.opens_cold slots 0 1 n)) refl;
        left = λ n bits h free. ap (λ (w : StateWord). 0 + bit (packed w == bits)) (sym (laws.opens_cold slots 0 1 n));
        kept = refl;
        counted = λ i. record {
          cold = sym (sum_by-replicate (λ (w : StateWord). bit (is_free_cold w)) slots cold_word ∙ all) i;
          warm = sym (sum_by-replicate (λ (w : StateWord). bit (is_free_warm w)) slots cold_word ∙ none) i;
          awaiting = sym (sum_by-replicate (λ (w : StateWord). bit (is_free_awaiting w)) slots cold_word ∙ none) i;
          held = sym (sum_by-replicate (λ (w : StateWord). bit (is_held w)) slots cold_word ∙ none) i;
        };
      }

  pub nothing_done : (slots : ℕ) (k : KindCounts) → CountsLeft slots [] k → k ≡ record { cold = slots; warm = 0; awaiting = 0; held = 0 }
  nothing_done slots k left = one_count slots [] k _ left (all_cold slots)
