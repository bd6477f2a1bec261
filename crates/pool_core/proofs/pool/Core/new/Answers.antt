use Rattle.std.proofs.Common.{sym, subst}
use Rattle.pool_core.specs.Lawful.{Lawful}
use Rattle.pool_core.proofs.LawfulOpening.{lawful_opening, opening_is}
use Rattle.pool_core.proofs.pool.Core.new.Goals as goal

pub returns : goal.returns
returns c = opening_is c.args.slots c.args.warm c.args.seats c.from.result _ _ c.idle.result c.index_mut.result.now c.requires
    (c.in_ok-words.ensures.items_if_clones_equal (λ y e. e)) c.idle.ensures (c.in_ok-all.ensures.items_if_clones_equal (λ y e. e)) c.index_mut.ensures.value c.from.ensures

pub invariant_of-result : goal.invariant_of-result
invariant_of-result c = subst Lawful (sym (returns c)) (lawful_opening c.args.slots c.args.warm c.args.seats)
