use Rattle.std.proofs.Common.{◌≡◌, ◌∙◌, ◌+◌, List, set, take, length, ap, arith}
use Rattle.std.proofs.Math.Seq.{take-set-lt}
use Rattle.std.proofs.lemmas.List.{length-take-le}
use Rattle.wasm_values.specs.declared.outcome.Val.{Val}
use Rattle.machine_steps.specs.Values.{Values}
use Rattle.machine_steps.proofs.values.ValueStack.put.Goals as goal

pub returns-clause-items : goal.returns-clause-items
returns-clause-items c =
    let cells : List Val = c.self.inside.cells.items in
    let is : take c.self.inside.height cells ≡ c.args.self.now.items = ap (λ (stack : Values). stack.items) c.self.view_is in
    ap (take c.self.inside.height) c.overwrite.ensures.items
    ∙ take-set-lt c.self.inside.height cells (c.args.base + c.args.x) c.args.v (omega (arith, ap length is, c.requires, length-take-le c.self.inside.height cells c.self.invariant))
    ∙ ap (λ (l : List Val). set l (c.args.base + c.args.x) c.args.v) is
