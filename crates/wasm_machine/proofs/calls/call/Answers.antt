use Rattle.std.proofs.Common.{ℕ, ◌-◌, sym, subst, arith}
use Rattle.wasm_spec.specs.Store.{Store}
use Rattle.wasm_spec.specs.Execution.{Terms, terms_of}
use Rattle.machine_steps.specs.Lent.{store_of}
use Rattle.wasm_machine.specs.Simulation.{SimulatesCall}
use Rattle.wasm_machine.proofs.HostCallLemmas.{own_calls}
use Rattle.wasm_machine.proofs.calls.call.Goals as goal

pub invoke-requires : goal.invoke-requires
invoke-requires c =
    let can = c.requires.can in
    let limits : Terms = terms_of c.args.inputs.now.limits c.args.inputs.now.request.now in (
      c.args.inputs.now.request.now,
      record {
        frame = can.frame;
        store = can.store;
        to = can.to;
        runnable = can.runnable;
        calling = subst (λ (n : ℕ). SimulatesCall c.args.inputs.now.m.now limits can.frame c.args.machine.now can.store (c.args.x - n) can.to) (sym c.len-imported.ensures)
            (own_calls c.args.inputs.now.m.now limits can.frame c.args.machine.now can.store c.args.x can.to (omega arith) can.calling);
      },
    )

pub returns-else-x-imported-clause-steps : goal.returns-else-x-imported-clause-steps
returns-else-x-imported-clause-steps c frame table globals r run e =
    let limits : Terms = terms_of c.args.inputs.now.limits c.args.inputs.now.request.now in
    let store : Store = store_of c.args.memory.now table globals c.args.answer.now in
    c.invoke.ensures.steps c.args.inputs.now.request.now frame store r run
    (subst (λ (n : ℕ). SimulatesCall c.args.inputs.now.m.now limits frame c.args.machine.now store (c.args.x - n) r) (sym c.len-imported.ensures)
    (own_calls c.args.inputs.now.m.now limits frame c.args.machine.now store c.args.x r (omega arith) e))
