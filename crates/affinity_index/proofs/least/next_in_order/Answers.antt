use Rattle.std.proofs.Common.{◌≡◌, ℕ, Some, None, leb, sym, ap, ◌∙◌}
use Rattle.std.proofs.lemmas.List.{get_or_default}
use Rattle.pool_core.specs.StateWords.{unpacked}
use Rattle.affinity_index.specs.Orders.{rank_of, seen_rank}
use Rattle.affinity_index.proofs.Leasts.{follows, stands_ranked}
use Rattle.affinity_index.proofs.least.next_in_order.Goals as goal

pub returns-in_err-rank-clause-next : goal.returns-in_err-rank-clause-next
returns-in_err-rank-clause-next c = λ order k is stands.
    let seen = c.args.seen.now in let tag = c.args.tag in let full = leb c.args.limit c.args.warm in let last = c.args.last in
    let none : seen_rank seen tag full last ≡ None = sym (c.rank.ensures.is ∙ ap (λ (r : ℕ). rank_of tag full (unpacked r)) (get_or_default seen last 0 1 c.requires.last)) ∙ c.in_err-rank.was in
    absurd (stands_ranked seen tag full order is k last stands none)

pub returns-in-Some-clause-next : goal.returns-in-Some-clause-next
returns-in-Some-clause-next c = λ order k is stands.
    let seen = c.args.seen.now in let tag = c.args.tag in let full = leb c.args.limit c.args.warm in let last = c.args.last in
    let ranked : seen_rank seen tag full last ≡ Some c.in_ok-rank.rank = sym (c.rank.ensures.is ∙ ap (λ (r : ℕ). rank_of tag full (unpacked r)) (get_or_default seen last 0 1 c.requires.last)) ∙ c.in_ok-rank.was in
    follows seen tag full order is k last c.in_ok-rank.rank stands ranked (Some c.in-Some.entry) c.in-Some.ensures

pub returns-in-None-clause-next : goal.returns-in-None-clause-next
returns-in-None-clause-next c = λ order k is stands.
    let seen = c.args.seen.now in let tag = c.args.tag in let full = leb c.args.limit c.args.warm in let last = c.args.last in
    let ranked : seen_rank seen tag full last ≡ Some c.in_ok-rank.rank = sym (c.rank.ensures.is ∙ ap (λ (r : ℕ). rank_of tag full (unpacked r)) (get_or_default seen last 0 1 c.requires.last)) ∙ c.in_ok-rank.was in
    follows seen tag full order is k last c.in_ok-rank.rank stands ranked None c.in-None.ensures
