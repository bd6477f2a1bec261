use Rattle.std.proofs.Common.{◌≡◌, ◌-◌, ◌+◌, ◌++◌, List, drop, take, reverse, length, sym, ap, ◌∙◌, arith}
use Rattle.std.proofs.lemmas.List.{take-append-drop, length-take-le}
use Rattle.wasm_values.specs.declared.outcome.Val.{Val}
use Rattle.machine_steps.specs.Values.{Values}
use Rattle.machine_steps.proofs.StackLists.{kept}
use Rattle.machine_steps.proofs.values.ValueStack.keep.Goals as goal

pub returns-clause-kept : goal.returns-clause-kept
returns-clause-kept c lower middle operands e low le =
    let cells : List Val = c.self.inside.cells.items in
    let height = c.self.inside.height in
    let is : take height cells ≡ lower ++ middle ++ reverse operands = ap (λ (stack : Values). stack.items) c.self.view_is ∙ e in
    ap (take (c.args.base + c.args.n)) c.move_values.ensures.items
    ∙ kept cells lower middle operands (drop height cells) height c.args.n c.args.base (((height - c.args.n) + c.args.n) - (height - c.args.n))
    (sym (take-append-drop height cells) ∙ ap (λ (l : List Val). l ++ drop height cells) is) (sym (length-take-le height cells c.self.invariant) ∙ ap length is) low le
    (omega (arith, c.requires, ap length (ap (λ (stack : Values). stack.items) c.self.view_is), length-take-le height cells c.self.invariant))
