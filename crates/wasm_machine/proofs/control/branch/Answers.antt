use Rattle.std.proofs.Common.{◌-◌, refl, arith}
use Rattle.machine_steps.specs.declared.machine.Machine.{Machine}
use Rattle.machine_steps.specs.StackLayout.{KeepsRoom}
use Rattle.wasm_machine.proofs.LabelLemmas.{open_count}
use Rattle.wasm_machine.proofs.BranchLemmas.{base_there, shown_jump, branch_returns}
use Rattle.wasm_machine.proofs.control.branch.Goals as goal

pub keep-requires : goal.keep-requires
keep-requires c =
    let e = c.requires in
    let o = open_count e.exits.configuration c.args.machine.now e.exits.represents in
    base_there c.args.m.now e.limits e.frame c.args.machine.now c.args.l (c.len-count.result - 1 - c.args.l) c.index-label.result.now e.store e.to e.exits (omega arith) (omega arith) c.index-label.ensures

pub return_from_function-requires : goal.return_from_function-requires
return_from_function-requires c =
    let e = c.requires in
    let o = open_count e.exits.configuration c.args.machine.now e.exits.represents in
    record { limits = e.limits; frame = e.frame; store = e.store; to = e.to; exits = branch_returns c.args.m.now e.limits e.frame c.args.machine.now c.args.l e.store e.to e.exits (omega arith) }

pub returns-then-l-count-clause-steps : goal.returns-then-l-count-clause-steps
returns-then-l-count-clause-steps c limits frame store r e =
    let o = open_count e.configuration c.args.machine.now e.represents in
    let old : Machine = c.args.machine.now in
    let new : Machine = record { at = record old.at { sequence = c.index-label.result.now.sequence; place = c.index-label.result.now.target }; values = c.keep.new.self; labels = c.truncate.new.self; frames = old.frames } in
    let keeps : KeepsRoom old new = record { values = omega (arith, c.keep.ensures.room); labels = omega (arith, c.truncate.ensures.capacity); frames = omega arith } in
    shown_jump c.args.m.now limits frame old new c.args.l (c.len-count.result - 1 - c.args.l) c.index-label.result.now store r e (omega arith) (omega arith) c.index-label.ensures c.keep.ensures.kept c.truncate.ensures.items refl refl keeps

pub returns-else-l-count-clause-steps : goal.returns-else-l-count-clause-steps
returns-else-l-count-clause-steps c limits frame store r e =
    let o = open_count e.configuration c.args.machine.now e.represents in
    c.return_from_function.ensures.steps limits frame store r (branch_returns c.args.m.now limits frame c.args.machine.now c.args.l store r e (omega arith))
