use Rattle.std.proofs.Common.{◌≡◌, ap, sym, ◌∙◌, arith, length, get_or, Some, List, ◌-◌}
use Rattle.wasm_spec.specs.Typing.{result_types}
use Rattle.wasm_checker.specs.Position.{frames_of}
use Rattle.wasm_checker.specs.declared.checker.ControlFrame.{ControlFrame}
use Rattle.wasm_checker.proofs.Stacks.{label_at, label_last, label_past}
use Rattle.wasm_checker.proofs.checker.Checker.label.Goals as goal

pub returns-then-l-n : goal.returns-then-l-n
returns-then-l-n c k s =
    let d : ControlFrame = c.index.result.now in
    let n = c.len-n.result in
    let e : d ≡ get_or (frames_of k.blocks) (n - 1 - c.args.l) d = c.index.ensures ∙ ap (λ (l : List ControlFrame). get_or l (n - 1 - c.args.l) d) s.frames in
    ap (λ (x : ControlFrame). Some (result_types x.label_type)) e ∙ sym (label_at c.args.body k.blocks c.args.l n d (omega (arith, c.len-n.ensures, ap length s.frames)) c.if-l-n.true)

pub returns-then-l-n-2 : goal.returns-then-l-n-2
returns-then-l-n-2 c k s = sym (label_last c.args.body k.blocks c.args.l (omega (arith, c.len-n.ensures, ap length s.frames, c.if-l-n-2.true)))

pub returns-else-l-n-2 : goal.returns-else-l-n-2
returns-else-l-n-2 c k s = sym (label_past c.args.body k.blocks c.args.l (omega (arith, c.len-n.ensures, ap length s.frames, c.if-l-n.false, c.if-l-n-2.false)))
