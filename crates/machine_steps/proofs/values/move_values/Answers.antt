use Rattle.std.proofs.Common.{◌≡◌, ◌+◌, ◌-◌, ℕ, List, drop, get_or, set, sym, ap, ◌∙◌, arith}
use Rattle.std.proofs.Math.Seq.{paste}
use Rattle.std.proofs.lemmas.List.{get_or-drop, length-drop}
use Rattle.std.proofs.lemmas.List.Edits.{paste_more, paste_none}
use Rattle.wasm_values.specs.declared.outcome.Val.{Val}
use Rattle.machine_steps.proofs.values.move_values.Goals as goal

pub returns-in-1-clause-items : goal.returns-in-1-clause-items
returns-in-1-clause-items c =
    let cells : List Val = c.args.cells.now.items in
    let from = c.args.from in
    let v : Val = c.cell_at.result in
    let one : c.args.n ≡ 1 = c.in-1.is in
    let at_from : from ≡ from + 0 = omega arith in
    let at_to : c.args.to ≡ c.args.to + 0 = omega arith in
    let is : v ≡ get_or (drop from cells) 0 v = c.cell_at.ensures v ∙ ap (λ (k : ℕ). get_or cells k v) at_from ∙ sym (get_or-drop from cells 0 v) in
    let last : 1 ≡ (from + c.args.n) - from = omega arith in
    c.overwrite.ensures.items
    ∙ ap (set cells c.args.to) is
    ∙ ap (λ (k : ℕ). set cells k (get_or (drop from cells) 0 v)) at_to
    ∙ ap (λ (l : List Val). set l (c.args.to + 0) (get_or (drop from cells) 0 v)) (paste_none cells c.args.to (drop from cells))
    ∙ paste_more cells c.args.to (drop from cells) 0 v (omega (arith, c.requires.to)) (omega (arith, c.requires.from, length-drop from cells))
    ∙ ap (paste cells c.args.to (drop from cells)) last
