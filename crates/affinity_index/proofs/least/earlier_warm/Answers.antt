use Rattle.std.proofs.Common.{◌≡◌, ◌<◌, ◌∙◌, ◌/◌, ◌%◌, ◌==◌, Bool, true, false, ℕ, Option, IfSome, unwrap_or, sym, ap, subst}
use Rattle.affinity_index.specs.declared.ranks.TheConstants.{NO_RANK}
use Rattle.affinity_index.specs.Rankings.{earlier_of, ranked_or_none}
use Rattle.affinity_index.proofs.WordRanks.{looked_at, passed_none, passed_over}
use Rattle.affinity_index.proofs.least.earlier_warm.Goals as goal

pub returns-then-not-is_warm-clause-is : goal.returns-then-not-is_warm-clause-is
returns-then-not-is_warm-clause-is c =
    passed_over c.args.tag c.args.full c.args.word c.args.least c.args.number c.requires.most (sym c.is_warm.ensures ∙ c.if-not-is_warm.true)

pub returns-then-not-is_warm-clause-small : goal.returns-then-not-is_warm-clause-small
returns-then-not-is_warm-clause-small c =
    let none = passed_none c.args.tag c.args.full c.args.word (sym c.is_warm.ensures ∙ c.if-not-is_warm.true) in
    subst (λ (o : Option ℕ). IfSome o (λ (r : ℕ). r < NO_RANK)) (sym none) tt

pub returns-clause-is : goal.returns-clause-is
returns-clause-is c =
    let same = looked_at c.args.tag c.args.full c.args.word (sym c.is_warm.ensures ∙ c.if-not-is_warm.false) in
    c.earlier.ensures
    ∙ ap (λ (r : ℕ). earlier_of c.args.least (record { rank = r; number = c.args.number })) (c.rank_or_none-rank.ensures.is ∙ ap (λ (o : Option ℕ). unwrap_or o NO_RANK) (sym same))

pub returns-clause-small : goal.returns-clause-small
returns-clause-small c =
    let same = looked_at c.args.tag c.args.full c.args.word (sym c.is_warm.ensures ∙ c.if-not-is_warm.false) in
    subst (λ (o : Option ℕ). IfSome o (λ (r : ℕ). r < NO_RANK)) (sym same) c.rank_or_none-rank.ensures.small
