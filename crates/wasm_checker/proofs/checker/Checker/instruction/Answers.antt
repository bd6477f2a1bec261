use Rattle.std.proofs.Common.{◌≡◌, ap, ◌∙◌, Some, None}
use Rattle.wasm_types.specs.declared.types.ValType.TheVariants.{I32}
use Rattle.wasm_types.specs.declared.instr.Op.{Op}
use Rattle.wasm_types.specs.declared.instr.Op.TheVariants as op
use Rattle.wasm_checker.specs.Check.{pop_type}
use Rattle.wasm_checker.specs.Position.{with_stack}
use Rattle.wasm_checker.specs.Subject.{result_of}
use Rattle.wasm_checker.proofs.Steps.{exits}
use Rattle.wasm_checker.proofs.Advances.{begins, plain_turn, call_turn, call_indirect_turn, block_turn, loop_turn, if_turn, if_none}
use Rattle.wasm_checker.proofs.checker.Checker.instruction.Goals as goal

pub returns-in-Plain : goal.returns-in-Plain
returns-in-Plain c o l =
    let w = c.args.self.now in
    let d = begins c.args.m.now c.args.f.now w (op.Plain c.in-Plain.i) o l (c.requires.is ∙ ap (λ (x : Op). Some x) c.in-Plain.is) in
    plain_turn c.args.m.now c.args.f.now w c.plain.new.self c.in-Plain.i c.plain.result o d (c.plain.ensures d.position d.shows)

pub returns-in-Block : goal.returns-in-Block
returns-in-Block c o l =
    let w = c.args.self.now in
    let d = begins c.args.m.now c.args.f.now w (op.Block c.in-Block.t c.in-Block.q) o l (c.requires.is ∙ ap (λ (x : Op). Some x) c.in-Block.is) in
    block_turn c.args.m.now c.args.f.now w c.enter.new.self c.in-Block.t c.in-Block.q c.named-inner.result c.enter.result o c.named-inner.ensures d (c.enter.ensures (result_of c.args.m.now c.args.f.now) d.position d.shows)

pub returns-in-Loop : goal.returns-in-Loop
returns-in-Loop c o l =
    let w = c.args.self.now in
    let d = begins c.args.m.now c.args.f.now w (op.Loop c.in-Loop.t c.in-Loop.q) o l (c.requires.is ∙ ap (λ (x : Op). Some x) c.in-Loop.is) in
    loop_turn c.args.m.now c.args.f.now w c.enter-in-Loop.new.self c.in-Loop.t c.in-Loop.q c.named-inner-in-Loop.result c.enter-in-Loop.result o c.named-inner-in-Loop.ensures d (c.enter-in-Loop.ensures (result_of c.args.m.now c.args.f.now) d.position d.shows)

pub returns-in_err-pop_type-in-If : goal.returns-in_err-pop_type-in-If
returns-in_err-pop_type-in-If c o l =
    let w = c.args.self.now in
    let d = begins c.args.m.now c.args.f.now w (op.If c.in-If.t c.in-If.q c.in-If.p) o l (c.requires.is ∙ ap (λ (x : Op). Some x) c.in-If.is) in
    exits _ (pop_type I32 d.position.stack ≡ None) _ _ c.in_err-pop_type-in-If.field-0.0 c.from_residual.ensures.1 (c.in_err-pop_type-in-If.ensures d.position d.shows)
    (if_none c.args.m.now c.args.f.now w c.in-If.t c.in-If.q c.in-If.p o d)

pub returns-in_ok-pop_type-in-If : goal.returns-in_ok-pop_type-in-If
returns-in_ok-pop_type-in-If c o l =
    let w = c.args.self.now in
    let d = begins c.args.m.now c.args.f.now w (op.If c.in-If.t c.in-If.q c.in-If.p) o l (c.requires.is ∙ ap (λ (x : Op). Some x) c.in-If.is) in
    let x = c.in_ok-pop_type-in-If.ensures d.position d.shows in
    if_turn c.args.m.now c.args.f.now w c.pop_type.new.self c.enter-in-If.new.self c.in-If.t c.in-If.q c.in-If.p c.named-first.result c.named-second.result c.enter-in-If.result o c.named-first.ensures c.named-second.ensures d x
    (c.enter-in-If.ensures (result_of c.args.m.now c.args.f.now) (with_stack d.position x.stack) x.shows)

pub returns-in-Call : goal.returns-in-Call
returns-in-Call c o l =
    let w = c.args.self.now in
    let d = begins c.args.m.now c.args.f.now w (op.Call c.in-Call.x) o l (c.requires.is ∙ ap (λ (x : Op). Some x) c.in-Call.is) in
    call_turn c.args.m.now c.args.f.now w c.call.new.self c.in-Call.x c.call.result o d (c.call.ensures d.position d.shows)

pub returns-in-CallIndirect : goal.returns-in-CallIndirect
returns-in-CallIndirect c o l =
    let w = c.args.self.now in
    let d = begins c.args.m.now c.args.f.now w (op.CallIndirect c.in-CallIndirect.x) o l (c.requires.is ∙ ap (λ (x : Op). Some x) c.in-CallIndirect.is) in
    call_indirect_turn c.args.m.now c.args.f.now w c.call_indirect.new.self c.in-CallIndirect.x c.call_indirect.result o d (c.call_indirect.ensures d.position d.shows)
