use Rattle.std.proofs.Common.{◌∙◌, sym, arith}
use Rattle.std.proofs.lemmas.List.{get_or_default}
use Rattle.affinity_index.proofs.WordRanks.{cold_first, no_cold, warm_first}
use Rattle.affinity_index.proofs.least.least_of_all.Goals as goal

pub returns-then-comes_before_cold : goal.returns-then-comes_before_cold
returns-then-comes_before_cold c =
    warm_first c.args.seen.now c.args.tag c.args.full c.least_warm-warm.result _ (sym c.comes_before_cold.ensures ∙ c.if-comes_before_cold.true) c.least_warm-warm.ensures

pub returns-in-Some : goal.returns-in-Some
returns-in-Some c = rw c.cold_rank.ensures
    (cold_first c.args.seen.now c.args.tag c.args.full c.least_warm-warm.result _ c.in-Some.number (λ m lt. omega (arith, get_or_default c.args.seen.now m 0 1 lt, c.type_inv.seen m)) (sym c.comes_before_cold.ensures ∙ c.if-comes_before_cold.false) c.least_warm-warm.ensures c.in-Some.ensures)

pub returns-in-None : goal.returns-in-None
returns-in-None c = no_cold c.args.seen.now c.args.tag c.args.full c.least_warm-warm.result _ c.in-None.ensures c.least_warm-warm.ensures
