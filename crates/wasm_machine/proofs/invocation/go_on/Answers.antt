use Rattle.std.proofs.Common.{◌-◌, Some, ap, arith}
use Rattle.wasm_values.specs.declared.outcome.Outcome.TheVariants as outcome
use Rattle.wasm_spec.specs.Result.{result_of}
use Rattle.machine_steps.specs.Lent.{store_of}
use Rattle.wasm_machine.proofs.ResultLemmas.{at_fuel, done_at, trapped_at}
use Rattle.wasm_machine.proofs.invocation.go_on.Goals as goal

-- ---- it ends well

pub returns-in-Done-clause-result : goal.returns-in-Done-clause-result
returns-in-Done-clause-result c frame r run simulates =
    let store = store_of c.advance.new.memory c.args.inputs.now.table.now c.advance.new.globals c.advance.new.answer in
    at_fuel r c.args.fuel c.in-Done.left (λ more. Some (record { outcome = outcome.Done c.top.result; store = store; fuel = more })) c.in-Done.ensures.left
    (done_at c.args.inputs.now.m.now c.advance.new.machine store r (c.args.fuel - c.in-Done.left) c.top.result c.top.ensures (c.in-Done.ensures.halts frame r run simulates))

pub returns-in-Done-clause-ended : goal.returns-in-Done-clause-ended
returns-in-Done-clause-ended c done frame r run simulates more =
    let store = store_of c.advance.new.memory c.args.inputs.now.table.now c.advance.new.globals c.advance.new.answer in
    done_at c.args.inputs.now.m.now c.advance.new.machine store r (c.args.fuel - c.in-Done.left) c.top.result c.top.ensures (c.in-Done.ensures.halts frame r run simulates) more

pub returns-in-Done-clause-store : goal.returns-in-Done-clause-store
returns-in-Done-clause-store c done =
    let (frame, r, run, simulates) = c.requires.runs in
    (c.in-Done.ensures.halts frame r run simulates).stored

pub returns-in-Done-clause-marked : goal.returns-in-Done-clause-marked
returns-in-Done-clause-marked c frame r run simulates turns x le e = c.in-Done.ensures.marked frame r run simulates turns x (omega (arith, le)) e

-- ---- it traps

pub returns-in-Trapped-clause-result : goal.returns-in-Trapped-clause-result
returns-in-Trapped-clause-result c frame r run simulates =
    let store = store_of c.advance.new.memory c.args.inputs.now.table.now c.advance.new.globals c.advance.new.answer in
    at_fuel r c.args.fuel c.in-Trapped.left (λ more. Some (record { outcome = outcome.Trap c.in-Trapped.t; store = store; fuel = more })) c.in-Trapped.ensures.left
    (trapped_at store r (c.args.fuel - c.in-Trapped.left) c.in-Trapped.t (c.in-Trapped.ensures.halts frame r run simulates))

pub returns-in-Trapped-clause-ended : goal.returns-in-Trapped-clause-ended
returns-in-Trapped-clause-ended c trapped frame r run simulates more =
    let store = store_of c.advance.new.memory c.args.inputs.now.table.now c.advance.new.globals c.advance.new.answer in
    trapped_at store r (c.args.fuel - c.in-Trapped.left) c.in-Trapped.t (c.in-Trapped.ensures.halts frame r run simulates) more

pub returns-in-Trapped-clause-marked : goal.returns-in-Trapped-clause-marked
returns-in-Trapped-clause-marked c frame r run simulates turns x le e = c.in-Trapped.ensures.marked frame r run simulates turns x (omega (arith, le)) e

-- ---- its fuel is used up

pub returns-in-OutOfFuel-clause-result : goal.returns-in-OutOfFuel-clause-result
returns-in-OutOfFuel-clause-result c frame r run simulates = ap result_of (c.in-OutOfFuel.ensures.halts frame r run simulates).1

pub returns-in-OutOfFuel-clause-stands : goal.returns-in-OutOfFuel-clause-stands
returns-in-OutOfFuel-clause-stands c out frame r run simulates = (c.in-OutOfFuel.ensures.halts frame r run simulates).0

pub returns-in-OutOfFuel-clause-marked : goal.returns-in-OutOfFuel-clause-marked
returns-in-OutOfFuel-clause-marked c frame r run simulates turns x le e = c.in-OutOfFuel.ensures.marked frame r run simulates turns x (omega (arith, le)) e

-- ---- the marks and the room

pub returns-in-Done-clause-unspent : goal.returns-in-Done-clause-unspent
returns-in-Done-clause-unspent c = c.in-Done.ensures.unspent

pub returns-in-Done-clause-marks : goal.returns-in-Done-clause-marks
returns-in-Done-clause-marks c = c.in-Done.ensures.marks

pub returns-in-Done-clause-room : goal.returns-in-Done-clause-room
returns-in-Done-clause-room c = c.in-Done.ensures.room

pub returns-in-Trapped-clause-unspent : goal.returns-in-Trapped-clause-unspent
returns-in-Trapped-clause-unspent c = c.in-Trapped.ensures.unspent

pub returns-in-Trapped-clause-marks : goal.returns-in-Trapped-clause-marks
returns-in-Trapped-clause-marks c = c.in-Trapped.ensures.marks

pub returns-in-Trapped-clause-room : goal.returns-in-Trapped-clause-room
returns-in-Trapped-clause-room c = c.in-Trapped.ensures.room

pub returns-in-OutOfFuel-clause-unspent : goal.returns-in-OutOfFuel-clause-unspent
returns-in-OutOfFuel-clause-unspent c = c.in-OutOfFuel.ensures.unspent

pub returns-in-OutOfFuel-clause-marks : goal.returns-in-OutOfFuel-clause-marks
returns-in-OutOfFuel-clause-marks c = c.in-OutOfFuel.ensures.marks

pub returns-in-OutOfFuel-clause-room : goal.returns-in-OutOfFuel-clause-room
returns-in-OutOfFuel-clause-room c = c.in-OutOfFuel.ensures.room
