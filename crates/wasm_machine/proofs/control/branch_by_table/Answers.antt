use Rattle.wasm_machine.specs.Simulation.{paid}
use Rattle.wasm_machine.proofs.BranchTableLemmas.{table_number, br_table_leaves}
use Rattle.wasm_machine.proofs.control.branch_by_table.Goals as goal

pub pop32-n-requires : goal.pop32-n-requires
pop32-n-requires c =
    let e = c.requires in
    table_number c.args.m.now e.limits e.frame c.args.machine.now e.store e.here c.args.last c.args.labels.now e.to e.before

pub branch-machine-requires : goal.branch-machine-requires
branch-machine-requires c =
    let e = c.requires in
    record {
      limits = e.limits;
      frame = e.frame;
      store = e.store;
      to = paid e.to;
      exits = br_table_leaves c.args.m.now e.limits e.frame c.args.machine.now c.pop32-n.new.self e.store e.here c.args.last c.pop32-n.result c.label_at.result c.args.labels.now e.to e.before c.pop32-n.ensures.represents c.label_at.ensures c.pop32-n.ensures.room;
    }

pub returns-clause-steps : goal.returns-clause-steps
returns-clause-steps c limits frame store here r b =
    c.branch-machine.ensures.steps limits frame store (paid r)
    (br_table_leaves c.args.m.now limits frame c.args.machine.now c.pop32-n.new.self store here c.args.last c.pop32-n.result c.label_at.result c.args.labels.now r b c.pop32-n.ensures.represents c.label_at.ensures c.pop32-n.ensures.room)
