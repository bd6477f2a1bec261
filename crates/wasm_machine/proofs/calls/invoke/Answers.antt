use Rattle.std.proofs.Common.{ℕ, length, ap, ◌∙◌, arith, subst}
use Rattle.std.proofs.lemmas.List.Elements.{All-get_or}
use Rattle.wasm_spec.specs.Typing.{type_or_empty}
use Rattle.wasm_validate.specs.Locals.{HasNoEmptyRun}
use Rattle.wasm_machine.specs.Remaining.{absent}
use Rattle.machine_steps.specs.StackLayout.{Represents}
use Rattle.wasm_machine.specs.Simulation.{in_function}
use Rattle.machine_steps.proofs.StackLayoutLemmas.{count_values}
use Rattle.wasm_machine.proofs.FunctionLemmas.{own_there}
use Rattle.wasm_machine.proofs.CallLemmas.{call_stops, call_goes, enough_arguments, call_values, type_known}
use Rattle.wasm_spec.specs.Execution.{terms_of}
use Rattle.wasm_machine.proofs.calls.invoke.Goals as goal

pub enter_function-requires-clause-arguments : goal.enter_function-requires-clause-arguments
enter_function-requires-clause-arguments c =
    let e = c.requires.1.calling in
    let limits = terms_of c.args.inputs.now.limits c.requires.0 in
    let count = c.param_count.ensures ∙ ap (λ o. length (type_or_empty o).params) (type_known c.args.inputs.now.m.now c.requires.1.frame c.args.x e.function e.type c.requires.1.runnable e.there e.typed) in
    omega (arith, count, enough_arguments c.args.inputs.now.m.now limits c.requires.1.frame c.args.machine.now c.requires.1.store c.args.x c.requires.1.to e, count_values e.configuration c.args.machine.now e.represents)

pub enter_function-requires-clause-values : goal.enter_function-requires-clause-values
enter_function-requires-clause-values c =
    call_values c.args.inputs.now.m.now (terms_of c.args.inputs.now.limits c.requires.0) c.requires.1.frame c.args.machine.now c.requires.1.store c.args.x c.requires.1.to c.requires.1.runnable c.requires.1.calling (omega (arith, c.len.ensures))

pub enter_function-requires-clause-frames : goal.enter_function-requires-clause-frames
enter_function-requires-clause-frames c = omega (arith, c.len.ensures, c.requires.1.calling.room.frames)

pub enter_function-requires-clause-there : goal.enter_function-requires-clause-there
enter_function-requires-clause-there c =
    let e = c.requires.1.calling in
    own_there c.args.inputs.now.m.now c.args.x e.function e.there

pub enter_function-requires-clause-turns : goal.enter_function-requires-clause-turns
enter_function-requires-clause-turns c =
    let m = c.args.inputs.now.m.now in
    let e = c.requires.1.calling in
    All-get_or HasNoEmptyRun m.functions c.args.x absent (own_there m c.args.x e.function e.there) c.requires.1.runnable.locals

pub returns-then-len-inputs-clause-steps : goal.returns-then-len-inputs-clause-steps
returns-then-len-inputs-clause-steps c request frame store r run e =
    call_stops c.args.inputs.now.m.now (terms_of c.args.inputs.now.limits request) frame c.args.machine.now store c.args.x r e (omega (arith, c.len.ensures))

pub returns-clause-steps : goal.returns-clause-steps
returns-clause-steps c request frame store r run e =
    let count = c.param_count.ensures ∙ ap (λ o. length (type_or_empty o).params) (type_known c.args.inputs.now.m.now frame c.args.x e.function e.type run e.there e.typed) in
    call_goes c.args.inputs.now.m.now (terms_of c.args.inputs.now.limits request) frame c.args.machine.now c.enter_function.new.machine store c.args.x r run e (omega (arith, c.len.ensures))
    (λ k sh le. subst (λ (n : ℕ). Represents (in_function c.args.inputs.now.m.now k c.args.x n) c.enter_function.new.machine) count (c.enter_function.ensures.represents k sh (omega (arith, count, le))))
    c.enter_function.ensures.room

pub returns-clause-room : goal.returns-clause-room
returns-clause-room c = c.enter_function.ensures.room

pub param_count-requires : goal.param_count-requires
param_count-requires c =
    let e = c.requires.1.calling in
    own_there c.args.inputs.now.m.now c.args.x e.function e.there

pub returns-then-len-inputs-clause-room : goal.returns-then-len-inputs-clause-room
returns-then-len-inputs-clause-room c = record { values = omega arith; labels = omega arith; frames = omega arith }
