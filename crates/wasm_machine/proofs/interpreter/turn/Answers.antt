use Rattle.std.proofs.Common.{◌≡◌, ◌+◌, ◌-◌, ℕ, suc, List, sym, ap, ◌∙◌, subst, arith}
use Rattle.wasm_types.specs.declared.instr.Op.{Op}
use Rattle.wasm_spec.specs.Execution.{terms_of}
use Rattle.machine_steps.specs.Lent.{store_of}
use Rattle.wasm_machine.specs.Simulation.{paid, sequence_at}
use Rattle.wasm_machine.specs.Stretches.{LiesIn, fuel_of, place_of}
use Rattle.wasm_machine.proofs.FunctionLemmas.{stands_in}
use Rattle.wasm_machine.proofs.PlaceLemmas.{keeps_on, moved}
use Rattle.wasm_machine.proofs.StretchLemmas.{goes_later, over_same}
use Rattle.wasm_machine.proofs.interpreter.turn.Goals as goal

-- ---- in the same sequence

pub rest-behind-requires : goal.rest-behind-requires
rest-behind-requires c = c.requires.next.some

pub fetch-requires-clause-lies : goal.fetch-requires-clause-lies
fetch-requires-clause-lies c =
    let ops : List Op = sequence_at c.args.inputs.now.m.now c.args.machine.now in
    subst (λ (l : List Op). LiesIn l c.rest-behind.result) (sym (c.execute.ensures.stays c.in-Stays.is)) (c.rest-behind.ensures.lies ops c.requires.next.lies)

pub fetch-requires-clause-fits : goal.fetch-requires-clause-fits
fetch-requires-clause-fits c = omega (arith, c.requires.fits, c.rest-behind.ensures.fuel)

pub fetch-requires-clause-can : goal.fetch-requires-clause-can
fetch-requires-clause-can c =
    let (frame, r, run, simulates) = c.requires.runs in
    let m = c.args.inputs.now.m.now in
    let limits = terms_of c.args.inputs.now.limits c.args.inputs.now.request.now in
    let store' = store_of c.execute.new.memory c.args.inputs.now.table.now c.execute.new.globals c.execute.new.answer in
    let ops : List Op = sequence_at m c.args.machine.now in
    record {
      limits = limits;
      frame = frame;
      store = store';
      to = paid r;
      simulates = moved m limits frame c.execute.new.machine store' (paid r) (place_of c.args.ahead + 1) (place_of c.rest-behind.result) (sym (c.rest-behind.ensures.place ops c.requires.next.lies)) (c.in-Stays.ensures.steps frame r run simulates);
    }

pub returns-in-Stays-clause-steps : goal.returns-in-Stays-clause-steps
returns-in-Stays-clause-steps c frame r run simulates =
    let m = c.args.inputs.now.m.now in
    let limits = terms_of c.args.inputs.now.limits c.args.inputs.now.request.now in
    let store' = store_of c.execute.new.memory c.args.inputs.now.table.now c.execute.new.globals c.execute.new.answer in
    let ops : List Op = sequence_at m c.args.machine.now in
    goes_later c.fetch.result m limits frame c.fetch.new.machine store' r (paid r) 1 (fuel_of c.rest-behind.result) (fuel_of c.args.ahead) (λ g. ap r (omega arith)) (omega (arith, c.rest-behind.ensures.fuel)) (omega (arith, c.fetch.ensures.fuel))
    (c.fetch.ensures.steps limits frame store' (paid r)
    (moved m limits frame c.execute.new.machine store' (paid r) (place_of c.args.ahead + 1) (place_of c.rest-behind.result) (sym (c.rest-behind.ensures.place ops c.requires.next.lies)) (c.in-Stays.ensures.steps frame r run simulates)))

pub returns-in-Stays-clause-fuel : goal.returns-in-Stays-clause-fuel
returns-in-Stays-clause-fuel c = omega (arith, c.fetch.ensures.fuel, c.rest-behind.ensures.fuel)

-- ---- in another one

pub stretch_at-there-requires : goal.stretch_at-there-requires
stretch_at-there-requires c =
    let (frame, r, run, simulates) = c.requires.runs in
    let s = c.in-Continues.ensures.steps frame r run simulates in
    stands_in c.args.inputs.now.m.now s.configuration c.execute.new.machine s.represents s.typed.around.there

pub fetch-requires-in-Continues-clause-lies : goal.fetch-requires-in-Continues-clause-lies
fetch-requires-in-Continues-clause-lies c = c.stretch_at-there.ensures.lies

pub fetch-requires-in-Continues-clause-fits : goal.fetch-requires-in-Continues-clause-fits
fetch-requires-in-Continues-clause-fits c = omega (arith, c.requires.fits, c.stretch_at-there.ensures.fuel, c.fuel_behind-left.ensures)

pub fetch-requires-in-Continues-clause-can : goal.fetch-requires-in-Continues-clause-can
fetch-requires-in-Continues-clause-can c =
    let (frame, r, run, simulates) = c.requires.runs in
    let m = c.args.inputs.now.m.now in
    let limits = terms_of c.args.inputs.now.limits c.args.inputs.now.request.now in
    let store' = store_of c.execute.new.memory c.args.inputs.now.table.now c.execute.new.globals c.execute.new.answer in
    record {
      limits = limits;
      frame = frame;
      store = store';
      to = paid r;
      simulates = moved m limits frame c.execute.new.machine store' (paid r) c.execute.new.machine.at.place (place_of c.stretch_at-there.result) (sym c.stretch_at-there.ensures.place) (c.in-Continues.ensures.steps frame r run simulates);
    }

pub returns-in-Continues-clause-steps : goal.returns-in-Continues-clause-steps
returns-in-Continues-clause-steps c frame r run simulates =
    let m = c.args.inputs.now.m.now in
    let limits = terms_of c.args.inputs.now.limits c.args.inputs.now.request.now in
    let store' = store_of c.execute.new.memory c.args.inputs.now.table.now c.execute.new.globals c.execute.new.answer in
    goes_later c.fetch-in-Continues.result m limits frame c.fetch-in-Continues.new.machine store' r (paid r) 1 (fuel_of c.stretch_at-there.result) (fuel_of c.args.ahead) (λ g. ap r (omega arith)) (omega (arith, c.stretch_at-there.ensures.fuel, c.fuel_behind-left.ensures)) (omega (arith, c.fetch-in-Continues.ensures.fuel))
    (c.fetch-in-Continues.ensures.steps limits frame store' (paid r)
    (moved m limits frame c.execute.new.machine store' (paid r) c.execute.new.machine.at.place (place_of c.stretch_at-there.result) (sym c.stretch_at-there.ensures.place) (c.in-Continues.ensures.steps frame r run simulates)))

pub returns-in-Continues-clause-fuel : goal.returns-in-Continues-clause-fuel
returns-in-Continues-clause-fuel c = omega (arith, c.fetch-in-Continues.ensures.fuel, c.stretch_at-there.ensures.fuel, c.fuel_behind-left.ensures)

-- ---- over, or a trap

pub returns-in-Finishes-clause-steps : goal.returns-in-Finishes-clause-steps
returns-in-Finishes-clause-steps c frame r run simulates =
    let m = c.args.inputs.now.m.now in
    let limits = terms_of c.args.inputs.now.limits c.args.inputs.now.request.now in
    let store' = store_of c.execute.new.memory c.args.inputs.now.table.now c.execute.new.globals c.execute.new.answer in
    let left : ℕ = c.fuel_behind-left-in-Finishes.result in
    over_same m limits frame c.execute.new.machine store' _ (paid r) (λ g. ap r (let same : fuel_of c.args.ahead - left + g ≡ suc g = omega (arith, c.fuel_behind-left-in-Finishes.ensures) in same)) (c.in-Finishes.ensures.steps frame r run simulates)

pub returns-in-Traps-clause-steps : goal.returns-in-Traps-clause-steps
returns-in-Traps-clause-steps c frame r run simulates g =
    let left : ℕ = c.fuel_behind-left-in-Traps.result in
    ap r (let same : fuel_of c.args.ahead - left + g ≡ suc g = omega (arith, c.fuel_behind-left-in-Traps.ensures) in same) ∙ c.in-Traps.ensures.steps frame r run simulates g

-- ---- the room and the marks that stay

pub returns-in-Stays-clause-room : goal.returns-in-Stays-clause-room
returns-in-Stays-clause-room c = keeps_on c.args.machine.now c.execute.new.machine c.fetch.new.machine c.execute.ensures.room c.fetch.ensures.room

pub returns-in-Continues-clause-room : goal.returns-in-Continues-clause-room
returns-in-Continues-clause-room c = keeps_on c.args.machine.now c.execute.new.machine c.fetch-in-Continues.new.machine c.execute.ensures.room c.fetch-in-Continues.ensures.room

pub returns-in-Stays-clause-marks : goal.returns-in-Stays-clause-marks
returns-in-Stays-clause-marks c = c.execute.ensures.marks

pub returns-in-Continues-clause-marks : goal.returns-in-Continues-clause-marks
returns-in-Continues-clause-marks c = c.execute.ensures.marks

pub returns-in-Finishes-clause-marks : goal.returns-in-Finishes-clause-marks
returns-in-Finishes-clause-marks c = c.execute.ensures.marks

pub returns-in-Traps-clause-marks : goal.returns-in-Traps-clause-marks
returns-in-Traps-clause-marks c = c.execute.ensures.marks
