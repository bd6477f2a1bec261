use Rattle.std.proofs.Common.{◌∙◌, sym}
use Rattle.wasm_spec.specs.Store.{Store}
use Rattle.wasm_spec.specs.Execution.{Terms, terms_of}
use Rattle.machine_steps.specs.Lent.{store_of}
use Rattle.wasm_machine.proofs.HostCallLemmas.{found_can, found_ready, found_done, some_function}
use Rattle.wasm_machine.proofs.MarkLemmas.{marks_of_host}
use Rattle.wasm_machine.proofs.calls.call_import.Goals as goal

pub host-requires-clause-can : goal.host-requires-clause-can
host-requires-clause-can c =
    let can = c.requires.can in
    found_can c.args.inputs.now.m.now (terms_of c.args.inputs.now.limits c.args.inputs.now.request.now) can.frame c.args.machine.now can.store c.args.x can.to can.runnable can.calling c.requires.import
    c.host_of.result c.host_of.ensures c.in-Some.function c.in-Some.is

pub host-requires-clause-ready : goal.host-requires-clause-ready
host-requires-clause-ready c =
    let can = c.requires.can in
    found_ready c.args.inputs.now.m.now (terms_of c.args.inputs.now.limits c.args.inputs.now.request.now) can.frame c.args.machine.now can.store c.args.x can.to can.runnable can.calling c.requires.import
    c.host_of.result c.host_of.ensures c.in-Some.function c.in-Some.is

pub unreachable-requires : goal.unreachable-requires
unreachable-requires c =
    let can = c.requires.can in
    some_function c.args.inputs.now.m.now (terms_of c.args.inputs.now.limits c.args.inputs.now.request.now) can.frame c.args.machine.now can.store c.args.x can.to can.runnable can.calling c.requires.import
    c.host_of.result c.host_of.ensures c.in-None.is

pub returns-clause-steps : goal.returns-clause-steps
returns-clause-steps c frame table globals r run e =
    let m = c.args.inputs.now.m.now in
    let t : Terms = terms_of c.args.inputs.now.limits c.args.inputs.now.request.now in
    let before : Store = store_of c.args.memory.now table globals c.args.answer.now in
    let after : Store = store_of c.host.new.memory table globals c.host.new.answer in
    found_done m t frame c.args.machine.now before c.args.x r run e c.requires.import c.host_of.result c.host_of.ensures c.in-Some.function c.in-Some.is
    c.host.new.self after c.host.result (c.host.ensures.does table globals) c.host.ensures.room

pub returns-clause-marks : goal.returns-clause-marks
returns-clause-marks c =
    let m = c.args.inputs.now.m.now in
    let request = c.args.inputs.now.request.now in
    let can = c.requires.can in
    let there = found_can m (terms_of c.args.inputs.now.limits request) can.frame c.args.machine.now can.store c.args.x can.to can.runnable can.calling c.requires.import
    c.host_of.result c.host_of.ensures c.in-Some.function c.in-Some.is in
    marks_of_host m c.args.x request c.in-Some.function c.args.machine.now c.host.result c.args.memory.now c.host.new.memory (sym c.host_of.ensures ∙ c.in-Some.is) there c.host.ensures.marks
