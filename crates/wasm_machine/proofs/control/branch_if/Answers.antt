use Rattle.std.proofs.Common.{◌∙◌, sym}
use Rattle.wasm_machine.specs.Simulation.{paid}
use Rattle.wasm_machine.proofs.PlaceLemmas.{turned}
use Rattle.wasm_machine.proofs.BranchIfLemmas.{number_there, br_if_leaves, br_if_goes}
use Rattle.wasm_machine.proofs.control.branch_if.Goals as goal

pub pop32-n-requires : goal.pop32-n-requires
pop32-n-requires c =
    let e = c.requires in
    number_there c.args.m.now e.limits e.frame c.args.machine.now e.store e.here c.args.l e.to e.before

pub branch-machine-requires : goal.branch-machine-requires
branch-machine-requires c =
    let e = c.requires in
    record {
      limits = e.limits;
      frame = e.frame;
      store = e.store;
      to = paid e.to;
      exits = br_if_leaves c.args.m.now e.limits e.frame c.args.machine.now c.pop32-n.new.self e.store e.here c.args.l c.pop32-n.result e.to e.before c.pop32-n.ensures.represents c.if-n-eq0.false c.pop32-n.ensures.room;
    }

pub returns-then-n-eq0-clause-steps : goal.returns-then-n-eq0-clause-steps
returns-then-n-eq0-clause-steps c limits frame store here r b =
    br_if_goes c.args.m.now limits frame c.args.machine.now c.pop32-n.new.self store here c.args.l c.pop32-n.result r b c.pop32-n.ensures.represents c.if-n-eq0.true c.pop32-n.ensures.room

pub returns-then-n-eq0-clause-stays : goal.returns-then-n-eq0-clause-stays
returns-then-n-eq0-clause-stays c stays =
    let e = c.requires in
    let h = number_there c.args.m.now e.limits e.frame c.args.machine.now e.store e.here c.args.l e.to e.before in
    let popped = c.pop32-n.ensures.represents h.configuration h.top h.rest h.represents h.are in
    popped.1.at ∙ sym h.represents.at

pub returns-else-n-eq0-clause-steps : goal.returns-else-n-eq0-clause-steps
returns-else-n-eq0-clause-steps c limits frame store here r b =
    turned c.branch-machine.result c.unless_over.result c.args.m.now limits frame c.branch-machine.new.machine store (paid r) c.unless_over.ensures.is
    (c.branch-machine.ensures.steps limits frame store (paid r) (br_if_leaves c.args.m.now limits frame c.args.machine.now c.pop32-n.new.self store here c.args.l c.pop32-n.result r b c.pop32-n.ensures.represents c.if-n-eq0.false c.pop32-n.ensures.room))

pub returns-else-n-eq0-clause-stays : goal.returns-else-n-eq0-clause-stays
returns-else-n-eq0-clause-stays c e = absurd (c.unless_over.ensures.moves e)
