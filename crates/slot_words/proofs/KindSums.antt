-- Counts that go over one word more.
use Rattle.std.proofs.Common.{◌≡◌, ℕ, ◌+◌, ◌<◌, ◌≤◌, Bool, true, false, List, length, take, get_or, arith}
use Rattle.std.proofs.lemmas.List.Sums.{sum_by_more}
use Rattle.pool_core.specs.declared.words.StateWord.{StateWord}
use Rattle.pool_core.specs.StateWords.{bit, cold_word}
use Rattle.pool_core.specs.Lawful.{is_free_warm, is_free_awaiting}
use Rattle.slot_words.specs.declared.kinds.KindCounts.{KindCounts}
use Rattle.slot_words.specs.KindCounts.{kind_counts, counts_with, is_free_cold, is_held}

pub kind_counts-more : (ws : List StateWord) (i : ℕ) → i < length ws → kind_counts (take (i + 1) ws) ≡ counts_with (kind_counts (take i ws)) (get_or ws i cold_word)
kind_counts-more ws i h = λ k. record {
  cold = sum_by_more (λ (w : StateWord). bit (is_free_cold w)) ws i cold_word h k;
  warm = sum_by_more (λ (w : StateWord). bit (is_free_warm w)) ws i cold_word h k;
  awaiting = sum_by_more (λ (w : StateWord). bit (is_free_awaiting w)) ws i cold_word h k;
  held = sum_by_more (λ (w : StateWord). bit (is_held w)) ws i cold_word h k;
}

-- none of the counts is more than this
abbrev pub AreAtMost : KindCounts → ℕ → Type 0
AreAtMost k i = (k.cold ≤ i) × (k.warm ≤ i) × (k.awaiting ≤ i) × (k.held ≤ i)

pub counts_with-at_most : (k : KindCounts) (w : StateWord) (i : ℕ) → AreAtMost k i → AreAtMost (counts_with k w) (i + 1)
counts_with-at_most k w i h = let low : (b : Bool) → bit b ≤ 1 = elim [ true ↦ omega arith | false ↦ omega arith ] in let a = low (is_free_cold w) in let b = low (is_free_warm w) in let d = low (is_free_awaiting w) in let e = low (is_held w) in
    let h0 = h.0 in let h1 = h.1 in let h2 = h.2 in let h3 = h.3 in (omega arith, omega arith, omega arith, omega arith)
