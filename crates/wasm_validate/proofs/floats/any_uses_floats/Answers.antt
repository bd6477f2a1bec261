use Rattle.std.proofs.Common.{Bool, ap, arith, get_or, sym, take_all, ◌∙◌, ◌||◌}
use Rattle.std.specs.List.{list_any}
use Rattle.std.proofs.lemmas.List.Folds.{list_any_at, list_any_more}
use Rattle.wasm_validate.proofs.floats.any_uses_floats.Goals as goal

pub returns-then-branch : goal.returns-then-branch
returns-then-branch g c =
    let uses = g.T.UsesFloats.uses in
    let d = c.item-item.result in
    let here = ap uses (sym c.item-item.is) ∙ sym c.in_ok-uses_floats.ensures ∙ c.if-branch.true in
    sym (list_any_at uses c.args.items.now c.loop-item.item-index d (omega (arith, c.loop-item-test.true)) here)

pub loop-item-preserved : goal.loop-item-preserved
loop-item-preserved g c =
    let uses = g.T.UsesFloats.uses in
    let items = c.args.items.now in
    let i = c.loop-item.item-index in
    let d = c.item-item.result in
    let here = ap uses (sym c.item-item.is) ∙ sym c.in_ok-uses_floats.ensures ∙ c.if-branch.false in
    list_any_more uses items i d (omega (arith, c.loop-item-test.true)) ∙ ap (λ (b : Bool). b || uses (get_or items i d)) c.loop-item.invariant ∙ here

pub returns : goal.returns
returns g c =
    let uses = g.T.UsesFloats.uses in
    sym (ap (list_any uses) (sym (take_all c.loop-item.item-index c.args.items.now (omega (arith, c.loop-item-test.false)))) ∙ c.loop-item.invariant)
