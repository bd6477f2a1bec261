use Rattle.std.proofs.Common.{◌+◌, List, sym, ap, ◌∙◌}
use Rattle.std.specs.Prelude.{slice_get}
use Rattle.wasm_types.specs.declared.instr.Op.{Op}
use Rattle.wasm_types.specs.declared.instr.Op.TheVariants as op
use Rattle.machine_steps.specs.Lent.{store_of}
use Rattle.wasm_machine.specs.Simulation.{paid, placed, sequence_at}
use Rattle.wasm_machine.specs.Stretches.{place_of}
use Rattle.wasm_machine.proofs.HostCallLemmas.{stopped}
use Rattle.wasm_machine.proofs.PlaceLemmas.{moved, stands}
use Rattle.wasm_machine.proofs.RoomLemmas.{begun}
use Rattle.wasm_spec.specs.Execution.{terms_of}
use Rattle.wasm_machine.proofs.interpreter.execute.Goals as goal

pub execute_plain-requires-clause-runs : goal.execute_plain-requires-clause-runs
execute_plain-requires-clause-runs c =
    let (frame, r, run, simulates) = c.requires.runs in
    let store = store_of c.args.memory.now c.args.inputs.now.table.now c.args.globals.now c.args.answer.now in
    let limits = terms_of c.args.inputs.now.limits c.args.inputs.now.request.now in
    let ops : List Op = sequence_at c.args.inputs.now.m.now c.args.machine.now in
    (frame, c.args.answer.now, r, run, begun c.args.inputs.now.m.now limits frame (placed c.args.machine.now (place_of c.args.ahead)) store c.first-op.result.now (op.Plain c.in-Plain.instr) r simulates (c.first-op.ensures ops c.requires.next.lies) c.in-Plain.is)

pub returns-in-Plain-clause-steps : goal.returns-in-Plain-clause-steps
returns-in-Plain-clause-steps c frame r run simulates =
    let store = store_of c.args.memory.now c.args.inputs.now.table.now c.args.globals.now c.args.answer.now in
    let limits = terms_of c.args.inputs.now.limits c.args.inputs.now.request.now in
    let ops : List Op = sequence_at c.args.inputs.now.m.now c.args.machine.now in
    c.execute_plain.ensures.steps frame c.args.answer.now r run (begun c.args.inputs.now.m.now limits frame (placed c.args.machine.now (place_of c.args.ahead)) store c.first-op.result.now (op.Plain c.in-Plain.instr) r simulates (c.first-op.ensures ops c.requires.next.lies) c.in-Plain.is)

pub place-here-requires : goal.place-here-requires
place-here-requires c = (sequence_at c.args.inputs.now.m.now c.args.machine.now, c.requires.next.lies)

pub execute_structured-requires-clause-there : goal.execute_structured-requires-clause-there
execute_structured-requires-clause-there c =
    let ops : List Op = sequence_at c.args.inputs.now.m.now c.args.machine.now in
    ap (slice_get ops) c.place-here.ensures.is ∙ c.first-op.ensures ops c.requires.next.lies

pub execute_structured-requires-clause-fits : goal.execute_structured-requires-clause-fits
execute_structured-requires-clause-fits c = c.place-here.ensures.fits c.requires.next.some

pub execute_structured-requires-clause-runs : goal.execute_structured-requires-clause-runs
execute_structured-requires-clause-runs c =
    let (frame, r, run, simulates) = c.requires.runs in
    let store = store_of c.args.memory.now c.args.inputs.now.table.now c.args.globals.now c.args.answer.now in
    let limits = terms_of c.args.inputs.now.limits c.args.inputs.now.request.now in
    (frame, c.args.globals.now, r, run, moved c.args.inputs.now.m.now limits frame c.args.machine.now store r (place_of c.args.ahead) c.place-here.result (sym c.place-here.ensures.is) simulates)

pub returns-in_default-clause-steps : goal.returns-in_default-clause-steps
returns-in_default-clause-steps c frame r run simulates =
    let m = c.args.inputs.now.m.now in
    let new = c.execute_structured.new.machine in
    let store = store_of c.args.memory.now c.args.inputs.now.table.now c.args.globals.now c.args.answer.now in
    let after = store_of c.execute_structured.new.memory c.args.inputs.now.table.now c.args.globals.now c.execute_structured.new.answer in
    let limits = terms_of c.args.inputs.now.limits c.args.inputs.now.request.now in
    stands c.unless_trapped.result (place_of c.args.ahead + 1) m limits frame new after (paid r) (λ e. absurd (c.unless_trapped.ensures.moves e))
    (stopped c.execute_structured.result c.unless_trapped.result m limits frame new after (paid r) c.unless_trapped.ensures.is
    (c.execute_structured.ensures.steps frame c.args.globals.now r run
    (moved m limits frame c.args.machine.now store r (place_of c.args.ahead) c.place-here.result (sym c.place-here.ensures.is) simulates)))

pub returns-in_default-clause-stays : goal.returns-in_default-clause-stays
returns-in_default-clause-stays c e = absurd (c.unless_trapped.ensures.moves e)
