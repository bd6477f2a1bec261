use Rattle.std.proofs.Common.{◌≡◌, ◌+◌, rules, sym, ap, ◌∙◌, subst, ℕ}
use Rattle.pool_core.specs.declared.words.StateWord.{StateWord}
use Rattle.pool_core.specs.StateWords.{unpacked}
use Rattle.slot_words.specs.declared.kinds.KindCounts.{KindCounts}
use Rattle.slot_words.specs.KindCounts.{counts_with}
use Rattle.slot_words.proofs.KindSums.{AreAtMost, counts_with-at_most}
use Rattle.slot_words.proofs.LookSums.{count_more}
use Rattle.slot_words.proofs.words.Words.look.Goals as goal

pub loop-n-preserved : goal.loop-n-preserved
loop-n-preserved g c =
    let i = c.loop-n.invariant in let u = c.unpack-held in let r : ℕ = c.load.result in let k : KindCounts = c.loop-n.counts in
    let w : StateWord = record { target = u.result.0; held = u.result.1 } in
    let w_is : w ≡ unpacked r = λ j. record { target = u.ensures.target j; held = u.ensures.held j } in
    let counts = c.with-counts.ensures ∙ ap (λ (x : StateWord). counts_with k x) w_is in record {
      same = search rules;
      keeps = search rules;
      counted = count_more c.loop-n.n r k c.with-counts.result _ _ _ i.counted c.load.ensures.trail counts;
      small = subst (λ (x : KindCounts). AreAtMost x (c.loop-n.n + 1)) (sym c.with-counts.ensures) (counts_with-at_most k w c.loop-n.n i.small);
    }
