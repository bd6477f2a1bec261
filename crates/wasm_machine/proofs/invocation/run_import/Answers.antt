use Rattle.std.proofs.Common.{◌≡◌, ℕ, Option, Some, None, sym, ap, ◌∙◌, subst, reverse}
use Rattle.std.specs.Prelude.{is_some}
use Rattle.wasm_types.specs.declared.host.HostFunction.{HostFunction}
use Rattle.wasm_spec.specs.Functions.{Imported, host_type}
use Rattle.wasm_spec.specs.Store.{Store}
use Rattle.wasm_spec.specs.Execution.{Terms, terms_of, host_call}
use Rattle.machine_steps.specs.Lent.{store_of}
use Rattle.wasm_machine.specs.Calls.{GivesOutside, outside}
use Rattle.wasm_machine.proofs.HostCallLemmas.{found_function, some_same}
use Rattle.wasm_machine.proofs.MarkLemmas.{marks_of_part, not_read}
use Rattle.wasm_machine.proofs.OutsideLemmas.{outside_callee, outside_result, the_import}
use Rattle.wasm_machine.proofs.invocation.run_import.Goals as goal

pub host_from_outside-requires-clause-arguments : goal.host_from_outside-requires-clause-arguments
host_from_outside-requires-clause-arguments c =
    let (frame, run) = c.requires.runs in
    let m = c.args.m.now in
    let t : Terms = record { pages = 0; depth = 0; request = c.args.request.now } in
    let h = outside_callee m t frame c.args.x c.args.args.now run c.requires.call c.requires.import in
    let same : c.in-Some.function ≡ h.function = some_same c.in-Some.function h.function c.host_of.result c.in-Some.is (found_function m c.args.x (Imported (the_import m t frame c.args.x c.args.args.now run c.requires.call c.requires.import)) c.requires.call.type h c.host_of.result c.host_of.ensures) in
    c.requires.call.args_fit ∙ h.params ∙ ap (λ (f : HostFunction). (host_type f).params) (sym same)

pub returns-in-Some-host_from_outside-clause-result : goal.returns-in-Some-host_from_outside-clause-result
returns-in-Some-host_from_outside-clause-result c limits table globals turns =
    let (frame, run) = c.requires.runs in
    let m = c.args.m.now in
    let t : Terms = terms_of limits c.args.request.now in
    let before : Store = store_of c.args.memory.now table globals c.args.answer.now in
    let after : Store = store_of c.host_from_outside.new.memory table globals c.host_from_outside.new.answer in
    let h = outside_callee m t frame c.args.x c.args.args.now run c.requires.call c.requires.import in
    let same : c.in-Some.function ≡ h.function = some_same c.in-Some.function h.function c.host_of.result c.in-Some.is (found_function m c.args.x (Imported (the_import m t frame c.args.x c.args.args.now run c.requires.call c.requires.import)) c.requires.call.type h c.host_of.result c.host_of.ensures) in
    outside_result m t frame c.args.x c.args.args.now run c.requires.call c.requires.import before after (Some c.in-Some-host_from_outside.n) c.in-Some.function same
    (subst (λ (o : Option ℕ). GivesOutside (host_call c.args.request.now c.in-Some.function (outside c.args.args.now before)) o after) c.in-Some-host_from_outside.is (c.host_from_outside.ensures.ends table globals)) turns

pub returns-in-None-host_from_outside-clause-result : goal.returns-in-None-host_from_outside-clause-result
returns-in-None-host_from_outside-clause-result c limits table globals turns =
    let (frame, run) = c.requires.runs in
    let m = c.args.m.now in
    let t : Terms = terms_of limits c.args.request.now in
    let before : Store = store_of c.args.memory.now table globals c.args.answer.now in
    let after : Store = store_of c.host_from_outside.new.memory table globals c.host_from_outside.new.answer in
    let h = outside_callee m t frame c.args.x c.args.args.now run c.requires.call c.requires.import in
    let same : c.in-Some.function ≡ h.function = some_same c.in-Some.function h.function c.host_of.result c.in-Some.is (found_function m c.args.x (Imported (the_import m t frame c.args.x c.args.args.now run c.requires.call c.requires.import)) c.requires.call.type h c.host_of.result c.host_of.ensures) in
    outside_result m t frame c.args.x c.args.args.now run c.requires.call c.requires.import before after None c.in-Some.function same
    (subst (λ (o : Option ℕ). GivesOutside (host_call c.args.request.now c.in-Some.function (outside c.args.args.now before)) o after) c.in-None-host_from_outside.is (c.host_from_outside.ensures.ends table globals)) turns

pub returns-in-Some-host_from_outside-clause-marks : goal.returns-in-Some-host_from_outside-clause-marks
returns-in-Some-host_from_outside-clause-marks c =
    let m = c.args.m.now in
    marks_of_part m c.args.request.now c.in-Some.function (reverse c.args.args.now) (is_some c.host_from_outside.result) c.args.memory.now c.host_from_outside.new.memory
    (not_read m c.args.x c.in-Some.function (sym c.host_of.ensures ∙ c.in-Some.is)) c.host_from_outside.ensures.marks

pub returns-in-None-host_from_outside-clause-marks : goal.returns-in-None-host_from_outside-clause-marks
returns-in-None-host_from_outside-clause-marks c =
    let m = c.args.m.now in
    marks_of_part m c.args.request.now c.in-Some.function (reverse c.args.args.now) (is_some c.host_from_outside.result) c.args.memory.now c.host_from_outside.new.memory
    (not_read m c.args.x c.in-Some.function (sym c.host_of.ensures ∙ c.in-Some.is)) c.host_from_outside.ensures.marks
