use Rattle.std.proofs.Common.{◌<◌, ◌∙◌, refl, ap, sym, subst, map, leb, length, List, ℕ}
use Rattle.std.specs.List.{All}
use Rattle.affinity_index.specs.Orders.{IsOrder}
use Rattle.affinity_index.specs.Rankings.{number_of}
use Rattle.affinity_index.proofs.Sorting.{sorted_is_order, sorted_is_within, refilled}
use Rattle.affinity_index.proofs.claim_order.order.Goals as goal

pub returns-clause-order : goal.returns-clause-order
returns-clause-order c =
    let es = c.rank_all-ranked.result.items in let fs = c.sort_unstable.new.self in
    let same = rw c.deref_mut.ensures.value at c.sort_unstable.ensures.permutation in
    let len = ap length c.deref_mut.ensures.value in
    let is = c.numbers_of.ensures ∙ ap (map number_of) (c.deref.ensures.0 ∙ refilled (length es) es fs refl (c.sort_unstable.ensures.len ∙ len)) in
    subst (λ (ns : List ℕ). IsOrder c.args.seen.now c.args.tag (leb c.args.limit c.args.warm) ns) (sym is)
    (sorted_is_order c.args.seen.now c.args.tag (leb c.args.limit c.args.warm) es fs same c.sort_unstable.ensures.sorted c.rank_all-ranked.ensures.each c.rank_all-ranked.ensures.once)

pub returns-clause-numbers : goal.returns-clause-numbers
returns-clause-numbers c =
    let es = c.rank_all-ranked.result.items in let fs = c.sort_unstable.new.self in
    let same = rw c.deref_mut.ensures.value at c.sort_unstable.ensures.permutation in
    let len = ap length c.deref_mut.ensures.value in
    let is = c.numbers_of.ensures ∙ ap (map number_of) (c.deref.ensures.0 ∙ refilled (length es) es fs refl (c.sort_unstable.ensures.len ∙ len)) in
    subst (λ (ns : List ℕ). All (λ n. n < length c.args.seen.now) ns) (sym is)
    (sorted_is_within c.args.seen.now c.args.tag (leb c.args.limit c.args.warm) es fs same c.rank_all-ranked.ensures.each)
