use Rattle.wasm_spec.specs.Execution.{Terms}
use Rattle.std.proofs.Common.{◌≡◌, ◌∙◌, ℕ, List, ap, sym, subst}
use Rattle.wasm_types.specs.declared.instr.Instr.{Instr}
use Rattle.wasm_types.specs.declared.instr.Instr.TheVariants as instr
use Rattle.wasm_types.specs.declared.instr.Op.TheVariants as op
use Rattle.wasm_types.specs.declared.module.Module.{Module}
use Rattle.wasm_spec.specs.Store.{Store}
use Rattle.wasm_spec.specs.Execution.{Ended}
use Rattle.machine_steps.specs.declared.machine.Machine.{Machine}
use Rattle.wasm_machine.specs.Simulation.{HasFetched, paid}
use Rattle.wasm_machine.proofs.PlaceLemmas.{turned}
use Rattle.wasm_machine.proofs.StepLemmas.{br_leaves, return_leaves}
use Rattle.wasm_machine.proofs.control.jump.Goals as goal

as_instr : (m : Module) (limits : Terms) (frame : ℕ) (machine : Machine) (store : Store) (here : ℕ) (i j : Instr) (r : ℕ → Ended) → i ≡ j → HasFetched m limits frame machine store here (op.Plain i) r → HasFetched m limits frame machine store here (op.Plain j) r
as_instr m limits frame machine store here i j r e b = subst (λ (x : Instr). HasFetched m limits frame machine store here (op.Plain x) r) e b

pub branch-machine-requires : goal.branch-machine-requires
branch-machine-requires c =
    let h = c.requires.can in
    record {
      limits = h.limits;
      frame = h.frame;
      store = h.store;
      to = paid h.to;
      exits = br_leaves c.args.m.now h.limits h.frame c.args.machine.now h.store h.here c.in-Br.l h.to
          (as_instr c.args.m.now h.limits h.frame c.args.machine.now h.store h.here c.args.instr.now (instr.Br c.in-Br.l) h.to c.in-Br.is h.before);
    }

pub return_from_function-requires : goal.return_from_function-requires
return_from_function-requires c =
    let h = c.requires.can in
    record {
      limits = h.limits;
      frame = h.frame;
      store = h.store;
      to = paid h.to;
      exits = return_leaves c.args.m.now h.limits h.frame c.args.machine.now h.store h.here h.to
          (as_instr c.args.m.now h.limits h.frame c.args.machine.now h.store h.here c.args.instr.now instr.Return h.to c.in-Return.is h.before);
    }

pub returns-in-Br-clause-steps : goal.returns-in-Br-clause-steps
returns-in-Br-clause-steps c limits frame store here r b =
    turned c.branch-machine.result c.unless_over.result c.args.m.now limits frame c.branch-machine.new.machine store (paid r) c.unless_over.ensures.is
    (c.branch-machine.ensures.steps limits frame store (paid r)
    (br_leaves c.args.m.now limits frame c.args.machine.now store here c.in-Br.l r (as_instr c.args.m.now limits frame c.args.machine.now store here c.args.instr.now (instr.Br c.in-Br.l) r c.in-Br.is b)))

pub returns-in-Br-clause-stays : goal.returns-in-Br-clause-stays
returns-in-Br-clause-stays c e = absurd (c.unless_over.ensures.moves e)

pub returns-in-BrIf-clause-steps : goal.returns-in-BrIf-clause-steps
returns-in-BrIf-clause-steps c limits frame store here r b =
    c.branch_if.ensures.steps limits frame store here r (as_instr c.args.m.now limits frame c.args.machine.now store here c.args.instr.now (instr.BrIf c.in-BrIf.l) r c.in-BrIf.is b)

pub returns-in-BrTable-clause-steps : goal.returns-in-BrTable-clause-steps
returns-in-BrTable-clause-steps c limits frame store here r b =
    let is : c.args.instr.now ≡ instr.BrTable c.as_slice.result.now c.in-BrTable.last = c.in-BrTable.is ∙ ap (λ (ls : List ℕ). instr.BrTable ls c.in-BrTable.last) (sym c.as_slice.ensures) in
    turned c.branch_by_table.result c.unless_over-in-BrTable.result c.args.m.now limits frame c.branch_by_table.new.machine store (paid r) c.unless_over-in-BrTable.ensures.is
    (c.branch_by_table.ensures.steps limits frame store here r (as_instr c.args.m.now limits frame c.args.machine.now store here c.args.instr.now (instr.BrTable c.as_slice.result.now c.in-BrTable.last) r is b))

pub returns-in-BrTable-clause-stays : goal.returns-in-BrTable-clause-stays
returns-in-BrTable-clause-stays c e = absurd (c.unless_over-in-BrTable.ensures.moves e)

pub returns-in-Return-clause-steps : goal.returns-in-Return-clause-steps
returns-in-Return-clause-steps c limits frame store here r b =
    turned c.return_from_function.result c.unless_over-in-Return.result c.args.m.now limits frame c.return_from_function.new.machine store (paid r) c.unless_over-in-Return.ensures.is
    (c.return_from_function.ensures.steps limits frame store (paid r)
    (return_leaves c.args.m.now limits frame c.args.machine.now store here r (as_instr c.args.m.now limits frame c.args.machine.now store here c.args.instr.now instr.Return r c.in-Return.is b)))

pub returns-in-Return-clause-stays : goal.returns-in-Return-clause-stays
returns-in-Return-clause-stays c e = absurd (c.unless_over-in-Return.ensures.moves e)
