use Rattle.std.proofs.Common.{◌≡◌, ◌+◌, ◌<◌, ℕ, List, length, get_or, sym, ap, ◌∙◌, subst, arith}
use Rattle.std.specs.Slots.{slots_items}
use Rattle.pool_core.specs.declared.words.StateWord.{StateWord}
use Rattle.pool_core.specs.StateWords.{IsWordOf, cold_word}
use Rattle.slot_words.specs.declared.kinds.KindCounts.{KindCounts}
use Rattle.slot_words.specs.KindCounts.{counts_with}
use Rattle.slot_words.proofs.Lookups.{found}
use Rattle.slot_words.proofs.KindSums.{kind_counts-more, counts_with-at_most, AreAtMost}
use Rattle.slot_words.proofs.kinds.count_kinds.Goals as goal

pub unpack-held-requires : goal.unpack-held-requires
unpack-held-requires g c = let ws : List StateWord = c.requires.words.0 in let i : ℕ = c.loop-i.i in let len = c.requires.words.1 in let t = c.loop-i-test.true in let inside : i < length ws = omega arith in
    (get_or ws i cold_word, subst (λ (x : ℕ). IsWordOf x (get_or ws i cold_word)) (found (slots_items c.args.closed.now.words) i c.word.result 0 c.word.ensures).1 (c.requires.words.2.each i inside))

pub loop-i-preserved : goal.loop-i-preserved
loop-i-preserved g c = let i : ℕ = c.loop-i.i in let items : List ℕ = slots_items c.args.closed.now.words in let t = c.loop-i-test.true in
    let k : KindCounts = c.loop-i.counts in let w : StateWord = record { target = c.unpack-held.result.0; held = c.unpack-held.result.1 } in record {
      counts = λ ws len begins.
          let inside : i < length ws = omega arith in
          let is : IsWordOf c.word.result (get_or ws i cold_word) = subst (λ (x : ℕ). IsWordOf x (get_or ws i cold_word)) (found items i c.word.result 0 c.word.ensures).1 (begins.each i inside) in
          let u = c.unpack-held.ensures.said (get_or ws i cold_word) is in
          let w_is : w ≡ get_or ws i cold_word = λ j. record { target = u.0 j; held = u.1 j } in
          c.with-counts.ensures ∙ ap (λ (x : StateWord). counts_with k x) w_is ∙ ap (λ (x : KindCounts). counts_with x (get_or ws i cold_word)) (c.loop-i.invariant.counts ws len begins) ∙ sym (kind_counts-more ws i inside);
      small = subst (λ (x : KindCounts). AreAtMost x (i + 1)) (sym c.with-counts.ensures) (counts_with-at_most k w i c.loop-i.invariant.small);
    }
