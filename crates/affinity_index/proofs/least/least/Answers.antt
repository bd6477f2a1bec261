use Rattle.std.proofs.Common.{◌≡◌, Option, ℕ, Some, None, sym, ap, ◌∙◌, subst}
use Rattle.std.proofs.lemmas.List.{get_or_default}
use Rattle.pool_core.specs.StateWords.{unpacked}
use Rattle.affinity_index.specs.Orders.{rank_of}
use Rattle.affinity_index.specs.Rankings.{IsLeastBelow, behind, rank_behind}
use Rattle.affinity_index.proofs.Leasts.{none_more, ranked_more}
use Rattle.affinity_index.proofs.least.least.Goals as goal
use Rattle.affinity_index.proofs.least.least.Goals.{in-Some, in_default}

pub loop-n-preserved : goal.loop-n-preserved
loop-n-preserved c =
    let seen = c.args.seen.now in let tag = c.args.tag in let full = c.args.full in let last = c.args.last in let n = c.loop-n.n in
    let at : ℕ → Option ℕ = rank_behind seen tag full last in
    let here : c.rank_of_next.result ≡ at n = c.rank_of_next.ensures ∙ ap (λ r. behind last n (rank_of tag full (unpacked r))) (get_or_default seen n 0 1 c.loop-n-test.true) in
    elim c.match-rank_of_next.branch [
      | in-Some w ↦
          let has : at n ≡ Some w.in-Some.rank = sym here ∙ w.in-Some.is in
          subst (IsLeastBelow at _) (sym (w.least-is ∙ ap Some w.lesser.ensures)) (ranked_more at n w.in-Some.rank c.loop-n.least has c.loop-n.invariant)
      | in_default w ↦
          let none : at n ≡ None = sym here ∙ w.in_default.is in
          subst (IsLeastBelow at _) (sym w.least-is) (none_more at n c.loop-n.least none c.loop-n.invariant)
    ]
