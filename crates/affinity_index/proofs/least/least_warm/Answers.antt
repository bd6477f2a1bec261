use Rattle.std.proofs.Common.{◌≡◌, ◌<◌, ◌+◌, Option, ℕ, IfSome, length, refl, unwrap_or, sym, ap, ◌∙◌, subst, arith}
use Rattle.std.proofs.lemmas.List.{get_or_default}
use Rattle.affinity_index.specs.declared.ranks.Ranked.{Ranked}
use Rattle.affinity_index.specs.declared.ranks.TheConstants.{NO_RANK}
use Rattle.affinity_index.specs.Rankings.{IsLeastBelow, earlier_of, ranked_or_none, seen_warm, warm_rank}
use Rattle.affinity_index.proofs.Leasts.{IsFirstSoFar, first_more}
use Rattle.affinity_index.proofs.least.least_warm.Goals as goal

pub loop-n-init : goal.loop-n-init
loop-n-init c = record { most = omega arith; below = λ m less. absurd (omega arith) }

pub loop-n-preserved : goal.loop-n-preserved
loop-n-preserved c =
    let seen = c.args.seen.now in let tag = c.args.tag in let full = c.args.full in let n = c.loop-n.n in
    let at : ℕ → Option ℕ = seen_warm seen tag full in
    let there = get_or_default seen n 0 1 c.loop-n-test.true in
    let is : c.earlier_warm-least.result ≡ earlier_of c.loop-n.least (ranked_or_none (at n) n) =
    c.earlier_warm-least.ensures.is ∙ ap (λ (r : ℕ). earlier_of c.loop-n.least (ranked_or_none (warm_rank tag full r) n)) there in
    let small : IfSome (at n) (λ (k : ℕ). k < NO_RANK) = subst (λ (r : ℕ). IfSome (warm_rank tag full r) (λ (k : ℕ). k < NO_RANK)) there c.earlier_warm-least.ensures.small in
    subst (IsFirstSoFar at (n + 1)) (sym is) (first_more at n (unwrap_or (at n) NO_RANK) c.loop-n.least (at n) refl refl small c.loop-n.invariant)

pub returns : goal.returns
returns c =
    let at : ℕ → Option ℕ = seen_warm c.args.seen.now c.args.tag c.args.full in
    let all : c.loop-n.n ≡ length c.args.seen.now = omega arith in
    subst (λ (k : ℕ). IsLeastBelow at k c.if_ranked.result) all (subst (IsLeastBelow at c.loop-n.n) (sym c.if_ranked.ensures) c.loop-n.invariant.below)
