use Rattle.std.proofs.Common.{refl, arith}
use Rattle.machine_steps.specs.declared.machine.Machine.{Machine}
use Rattle.machine_steps.specs.StackLayout.{KeepsRoom}
use Rattle.wasm_machine.proofs.BranchLemmas.{shown_close, end_returns}
use Rattle.wasm_machine.proofs.control.end_sequence.Goals as goal

pub return_from_function-requires : goal.return_from_function-requires
return_from_function-requires c =
    let e = c.requires in
    record { limits = e.limits; frame = e.frame; store = e.store; to = e.to; exits = end_returns c.args.m.now e.limits e.frame c.args.machine.now e.store e.to e.exits (omega arith) }

pub returns-then-len-machine-clause-steps : goal.returns-then-len-machine-clause-steps
returns-then-len-machine-clause-steps c limits frame store r e =
    c.return_from_function.ensures.steps limits frame store r (end_returns c.args.m.now limits frame c.args.machine.now store r e (omega arith))

pub returns-clause-steps : goal.returns-clause-steps
returns-clause-steps c limits frame store r e =
    let old : Machine = c.args.machine.now in
    let new : Machine = record { at = record old.at { sequence = c.in-Some.label.sequence; place = c.in-Some.label.after }; values = old.values; labels = c.pop.new.self; frames = old.frames } in
    let keeps : KeepsRoom old new = record { values = omega arith; labels = omega (arith, c.in-Some.ensures.capacity); frames = omega arith } in
    shown_close c.args.m.now limits frame old new c.in-Some.label store r e (λ n. c.if-len-machine.false (omega (arith, n))) c.in-Some.ensures.items refl refl refl keeps
