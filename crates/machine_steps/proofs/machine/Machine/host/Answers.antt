use Rattle.std.proofs.Common.{◌≡◌, List, ℕ, Option, None, true, refl, sym, subst}
use Rattle.std.specs.Prelude.{is_none}
use Rattle.wasm_values.specs.declared.outcome.TrapKind.{TrapKind}
use Rattle.wasm_types.specs.declared.host.HostFunction.{HostFunction}
use Rattle.wasm_types.specs.declared.host.HostFunction.TheVariants as host
use Rattle.wasm_spec.specs.Store.{Store}
use Rattle.machine_steps.specs.declared.machine.Machine.{Machine}
use Rattle.machine_steps.specs.Lent.{store_of}
use Rattle.machine_steps.specs.HostSteps.{CallsHost}
use Rattle.machine_steps.proofs.PartLemmas.{as_read, nothing_read}
use Rattle.machine_steps.proofs.machine.Machine.host.Goals as goal

as_function : (request : List ℕ) (f g : HostFunction) (old new : Machine) (before after : Store) (o : Option TrapKind) → f ≡ g → CallsHost request g old before o new after → CallsHost request f old before o new after
as_function request f g old new before after o e d = subst (λ (x : HostFunction). CallsHost request x old before o new after) (sym e) d

pub returns-in-Len-clause-does : goal.returns-in-Len-clause-does
returns-in-Len-clause-does c table globals =
    let store : Store = store_of c.args.memory.now table globals c.args.answer.now in
    as_function c.args.request.now c.args.function host.Len c.args.self.now c.request_len.new.self store store None c.in-Len.is (c.request_len.ensures.does store)

pub returns-in-Write-clause-does : goal.returns-in-Write-clause-does
returns-in-Write-clause-does c table globals =
    let store : Store = store_of c.args.memory.now table globals c.args.answer.now in
    let after : Store = store_of c.args.memory.now table globals c.write_answer.new.answer in
    as_function c.args.request.now c.args.function host.Write c.args.self.now c.write_answer.new.self store after c.write_answer.result c.in-Write.is (c.write_answer.ensures.does c.args.request.now table globals)

pub returns-in-Len-clause-marks : goal.returns-in-Len-clause-marks
returns-in-Len-clause-marks c can =
    nothing_read c.args.request.now c.args.function host.Len can.configuration.operands true c.args.memory.now c.in-Len.is refl

pub returns-in-Read-clause-marks : goal.returns-in-Read-clause-marks
returns-in-Read-clause-marks c = as_read c.args.request.now c.args.function host.Read c.args.self.now c.read_request.result c.args.memory.now c.read_request.new.memory c.in-Read.is c.read_request.ensures.marks

pub returns-in-Write-clause-marks : goal.returns-in-Write-clause-marks
returns-in-Write-clause-marks c can =
    nothing_read c.args.request.now c.args.function host.Write can.configuration.operands (is_none c.write_answer.result) c.args.memory.now c.in-Write.is refl
