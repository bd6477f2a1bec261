use Rattle.std.proofs.Common.{◌≡◌, ◌+◌, ◌-◌, ◌*◌, ℕ, refl, sym, ap, ◌∙◌, arith, subst}
use Rattle.wasm_spec.specs.Instances.{room_for}
use Rattle.wasm_spec.specs.Execution.{terms_of}
use Rattle.linear_memory.proofs.MarkedBlocks.{changes_more, changes_none}
use Rattle.machine_steps.specs.Lent.{store_of}
use Rattle.wasm_machine.specs.Simulation.{AreMarkedBelow, HaltsAs, after, left_of, placed, sequence_at}
use Rattle.wasm_machine.specs.Stretches.{fuel_of, place_of}
use Rattle.wasm_machine.proofs.FunctionLemmas.{stands_in}
use Rattle.wasm_machine.proofs.MarkLemmas.{marks_none}
use Rattle.wasm_machine.proofs.PlaceLemmas.{moved}
use Rattle.wasm_machine.proofs.RunLemmas.{marked_next, within_more, simulates_same}
use Rattle.wasm_machine.proofs.StretchLemmas.{halts_later, marked_halts, next_within}
use Rattle.wasm_machine.proofs.interpreter.advance.Goals as goal

-- ---- at the beginning

pub stretch_at-first-requires : goal.stretch_at-first-requires
stretch_at-first-requires c =
    let (frame, r, run, s) = c.requires.runs in
    stands_in c.args.inputs.now.m.now s.configuration c.args.machine.now s.represents s.typed.around.there

pub fetch-requires-clause-fits : goal.fetch-requires-clause-fits
fetch-requires-clause-fits c = omega (arith, c.ranges.fuel, c.stretch_at-first.ensures.fuel)

pub fetch-requires-clause-can : goal.fetch-requires-clause-can
fetch-requires-clause-can c =
    let (frame, r, run, simulates) = c.requires.runs in
    let m = c.args.inputs.now.m.now in
    let limits = terms_of c.args.inputs.now.limits c.args.inputs.now.request.now in
    let store = store_of c.args.memory.now c.args.inputs.now.table.now c.args.globals.now c.args.answer.now in
    let here = moved m limits frame c.args.machine.now store r c.args.machine.now.at.place (place_of c.stretch_at-first.result) (sym c.stretch_at-first.ensures.place) simulates in
    record { limits = limits; frame = frame; store = store; to = r; simulates = here }

pub returns-in-Err-clause-halts : goal.returns-in-Err-clause-halts
returns-in-Err-clause-halts c frame r run simulates =
    let m = c.args.inputs.now.m.now in
    let limits = terms_of c.args.inputs.now.limits c.args.inputs.now.request.now in
    let store = store_of c.args.memory.now c.args.inputs.now.table.now c.args.globals.now c.args.answer.now in
    let here = moved m limits frame c.args.machine.now store r c.args.machine.now.at.place (place_of c.stretch_at-first.result) (sym c.stretch_at-first.ensures.place) simulates in
    halts_later m limits frame c.fetch.new.machine store c.in-Err.halt r r 0 (fuel_of c.stretch_at-first.result) c.args.fuel (λ g. ap r (omega arith)) (omega (arith, c.stretch_at-first.ensures.fuel)) (omega (arith, c.in-Err.ensures.fuel))
    (c.in-Err.ensures.steps limits frame store r here)

pub returns-in-Err-clause-marked : goal.returns-in-Err-clause-marked
returns-in-Err-clause-marked c frame r run simulates =
    let m = c.args.inputs.now.m.now in
    let limits = terms_of c.args.inputs.now.limits c.args.inputs.now.request.now in
    let store = store_of c.args.memory.now c.args.inputs.now.table.now c.args.globals.now c.args.answer.now in
    let here = moved m limits frame c.args.machine.now store r c.args.machine.now.at.place (place_of c.stretch_at-first.result) (sym c.stretch_at-first.ensures.place) simulates in
    let halts : HaltsAs c.in-Err.halt m limits frame c.fetch.new.machine store c.args.fuel r =
    halts_later m limits frame c.fetch.new.machine store c.in-Err.halt r r 0 (fuel_of c.stretch_at-first.result) c.args.fuel (λ g. ap r (omega arith)) (omega (arith, c.stretch_at-first.ensures.fuel)) (omega (arith, c.in-Err.ensures.fuel))
    (c.in-Err.ensures.steps limits frame store r here) in
    let none : c.args.fuel - left_of c.in-Err.halt ≡ 0 = omega (arith, c.in-Err.ensures.fuel, c.stretch_at-first.ensures.fuel) in
    marked_halts c.in-Err.halt r c.args.memory.now m limits frame c.fetch.new.machine store c.args.fuel (room_for m.memories limits.pages) 0 c.args.memory.now
    (λ g x lt is. absurd (omega (arith, lt, none))) c.requires.memory (changes_none c.args.memory.now c.args.memory.now refl refl) refl halts

pub returns-in-Err-clause-left : goal.returns-in-Err-clause-left
returns-in-Err-clause-left c = omega (arith, c.in-Err.ensures.fuel, c.stretch_at-first.ensures.fuel)

pub returns-in-Err-clause-marks : goal.returns-in-Err-clause-marks
returns-in-Err-clause-marks c = marks_none c.args.inputs.now.m.now c.args.memory.now c.args.memory.now (2 * (c.args.fuel - left_of c.in-Err.halt)) refl

pub turns-init : goal.turns-init
turns-init c =
    let m = c.args.inputs.now.m.now in
    let limits = terms_of c.args.inputs.now.limits c.args.inputs.now.request.now in
    let store = store_of c.args.memory.now c.args.inputs.now.table.now c.args.globals.now c.args.answer.now in
    let ahead = c.in-Ok.next in
    let none : c.args.fuel - fuel_of ahead ≡ 0 = omega (arith, c.in-Ok.ensures.fuel, c.stretch_at-first.ensures.fuel) in
    record {
      within = omega (arith, c.in-Ok.ensures.fuel, c.stretch_at-first.ensures.fuel);
      next = c.in-Ok.ensures.next;
      simulates = λ frame r run simulates.
          let here = moved m limits frame c.args.machine.now store r c.args.machine.now.at.place (place_of c.stretch_at-first.result) (sym c.stretch_at-first.ensures.place) simulates in
          let spent : fuel_of c.stretch_at-first.result - fuel_of ahead ≡ c.args.fuel - fuel_of ahead = omega (arith, c.stretch_at-first.ensures.fuel) in
          simulates_same m limits frame (placed c.fetch.new.machine (place_of ahead)) store (after (fuel_of c.stretch_at-first.result - fuel_of ahead) r) (after (c.args.fuel - fuel_of ahead) r) (λ g. ap (λ (n : ℕ). r (n + g)) spent)
          (c.in-Ok.ensures.steps limits frame store r here);
      marked = λ frame r run s fuel x lt is. absurd (omega (arith, lt, none));
      unspent = λ e. refl;
      room = record { values = omega (arith, c.in-Ok.ensures.room.values); labels = omega (arith, c.in-Ok.ensures.room.labels); frames = omega (arith, c.in-Ok.ensures.room.frames) };
      memory = c.requires.memory;
      globals = refl;
      marks = record { added = 0; changes = changes_none c.args.memory.now c.args.memory.now refl refl; few = λ e. omega arith };
    }

-- ---- a turn

pub turn-requires-clause-fits : goal.turn-requires-clause-fits
turn-requires-clause-fits c = omega (arith, c.ranges.fuel, c.turns.invariant.within)

pub turn-requires-clause-runs : goal.turn-requires-clause-runs
turn-requires-clause-runs c =
    let (frame, r, run, simulates) = c.requires.runs in
    (frame, after (c.args.fuel - fuel_of c.turns.ahead) r, run, c.turns.invariant.simulates frame r run simulates)

pub turns-preserved : goal.turns-preserved
turns-preserved c =
    let m = c.args.inputs.now.m.now in
    let limits = terms_of c.args.inputs.now.limits c.args.inputs.now.request.now in
    let i = c.turns.invariant in
    let spent : ℕ = c.args.fuel - fuel_of c.turns.ahead in
    let store = store_of c.turns.memory c.args.inputs.now.table.now c.turns.globals c.turns.answer in
    let store' = store_of c.turn.new.memory c.args.inputs.now.table.now c.turn.new.globals c.turn.new.answer in
    let ahead = c.in-Ok-turn.next in
    let next : spent + 1 ≡ c.args.fuel - fuel_of ahead = omega (arith, i.within, c.in-Ok-turn.ensures.fuel) in
    record {
      within = omega (arith, i.within, c.in-Ok-turn.ensures.fuel);
      next = c.in-Ok-turn.ensures.next;
      simulates = λ frame r run simulates.
          simulates_same m limits frame (placed c.turn.new.machine (place_of ahead)) store' (after (fuel_of c.turns.ahead - fuel_of ahead) (after spent r)) (after (c.args.fuel - fuel_of ahead) r)
          (λ g. ap r (let same : spent + (fuel_of c.turns.ahead - fuel_of ahead + g) ≡ c.args.fuel - fuel_of ahead + g = omega (arith, i.within, c.in-Ok-turn.ensures.fuel) in same))
          (c.in-Ok-turn.ensures.steps frame (after spent r) run (i.simulates frame r run simulates));
      marked = λ frame r run simulates.
          subst (λ (n : ℕ). AreMarkedBelow n r c.args.memory.now c.turn.new.memory) next
          (marked_next m limits frame r c.args.memory.now (placed c.turns.machine (place_of c.turns.ahead)) store spent (room_for m.memories limits.pages) i.marks.added c.in-Ok-turn.ensures.marks.added c.turns.memory c.turn.new.memory (i.marked frame r run simulates) i.memory i.marks.changes refl (i.simulates frame r run simulates)
          (next_within (sequence_at m c.turns.machine) c.turns.ahead i.next.lies i.next.some) c.in-Ok-turn.ensures.marks.changes);
      unspent = λ e. absurd (omega (arith, e, i.within, c.in-Ok-turn.ensures.fuel));
      room = record {
        values = omega (arith, i.room.values, c.in-Ok-turn.ensures.room.values);
        labels = omega (arith, i.room.labels, c.in-Ok-turn.ensures.room.labels);
        frames = omega (arith, i.room.frames, c.in-Ok-turn.ensures.room.frames);
      };
      memory = c.in-Ok-turn.ensures.memory;
      globals = c.in-Ok-turn.ensures.globals ∙ i.globals;
      marks = within_more m c.args.memory.now c.turns.memory c.turn.new.memory (2 * spent) 2 (2 * (c.args.fuel - fuel_of ahead)) i.marks c.in-Ok-turn.ensures.marks (omega (arith, next));
    }

pub turns-smaller : goal.turns-smaller
turns-smaller c = omega (arith, c.in-Ok-turn.ensures.fuel)

-- ---- where it halts

pub returns-in-Err-turn-clause-halts : goal.returns-in-Err-turn-clause-halts
returns-in-Err-turn-clause-halts c frame r run simulates =
    let m = c.args.inputs.now.m.now in
    let limits = terms_of c.args.inputs.now.limits c.args.inputs.now.request.now in
    let i = c.turns.invariant in
    let spent : ℕ = c.args.fuel - fuel_of c.turns.ahead in
    let store = store_of c.turns.memory c.args.inputs.now.table.now c.turns.globals c.turns.answer in
    let store' = store_of c.turn.new.memory c.args.inputs.now.table.now c.turn.new.globals c.turn.new.answer in
    halts_later m limits frame c.turn.new.machine store' c.in-Err-turn.halt r (after spent r) spent (fuel_of c.turns.ahead) c.args.fuel (λ g. refl) (omega (arith, i.within)) (omega (arith, c.in-Err-turn.ensures.fuel))
    (c.in-Err-turn.ensures.steps frame (after spent r) run (i.simulates frame r run simulates))

pub returns-in-Err-turn-clause-marked : goal.returns-in-Err-turn-clause-marked
returns-in-Err-turn-clause-marked c frame r run simulates =
    let m = c.args.inputs.now.m.now in
    let limits = terms_of c.args.inputs.now.limits c.args.inputs.now.request.now in
    let i = c.turns.invariant in
    let spent : ℕ = c.args.fuel - fuel_of c.turns.ahead in
    let store = store_of c.turns.memory c.args.inputs.now.table.now c.turns.globals c.turns.answer in
    let store' = store_of c.turn.new.memory c.args.inputs.now.table.now c.turn.new.globals c.turn.new.answer in
    let halts : HaltsAs c.in-Err-turn.halt m limits frame c.turn.new.machine store' c.args.fuel r =
    halts_later m limits frame c.turn.new.machine store' c.in-Err-turn.halt r (after spent r) spent (fuel_of c.turns.ahead) c.args.fuel (λ g. refl) (omega (arith, i.within)) (omega (arith, c.in-Err-turn.ensures.fuel))
    (c.in-Err-turn.ensures.steps frame (after spent r) run (i.simulates frame r run simulates)) in
    let next : spent + 1 ≡ c.args.fuel - left_of c.in-Err-turn.halt = omega (arith, i.within, c.in-Err-turn.ensures.fuel) in
    let below = subst (λ (n : ℕ). AreMarkedBelow n r c.args.memory.now c.turn.new.memory) next
    (marked_next m limits frame r c.args.memory.now (placed c.turns.machine (place_of c.turns.ahead)) store spent (room_for m.memories limits.pages) i.marks.added c.in-Err-turn.ensures.marks.added c.turns.memory c.turn.new.memory (i.marked frame r run simulates) i.memory i.marks.changes refl (i.simulates frame r run simulates)
    (next_within (sequence_at m c.turns.machine) c.turns.ahead i.next.lies i.next.some) c.in-Err-turn.ensures.marks.changes) in
    marked_halts c.in-Err-turn.halt r c.args.memory.now m limits frame c.turn.new.machine store' c.args.fuel (room_for m.memories limits.pages) (i.marks.added + c.in-Err-turn.ensures.marks.added) c.turn.new.memory
    below c.in-Err-turn.ensures.memory
    (changes_more c.args.memory.now c.turns.memory c.turn.new.memory i.marks.added c.in-Err-turn.ensures.marks.added (i.marks.added + c.in-Err-turn.ensures.marks.added) i.marks.changes c.in-Err-turn.ensures.marks.changes (omega arith)) refl halts

pub returns-in-Err-turn-clause-left : goal.returns-in-Err-turn-clause-left
returns-in-Err-turn-clause-left c = omega (arith, c.in-Err-turn.ensures.fuel, c.turns.invariant.within)

pub returns-in-Err-turn-clause-unspent : goal.returns-in-Err-turn-clause-unspent
returns-in-Err-turn-clause-unspent c e = absurd (omega (arith, e, c.in-Err-turn.ensures.fuel, c.turns.invariant.within))

pub returns-in-Err-turn-clause-marks : goal.returns-in-Err-turn-clause-marks
returns-in-Err-turn-clause-marks c =
    let i = c.turns.invariant in
    within_more c.args.inputs.now.m.now c.args.memory.now c.turns.memory c.turn.new.memory (2 * (c.args.fuel - fuel_of c.turns.ahead)) 2 (2 * (c.args.fuel - left_of c.in-Err-turn.halt)) i.marks c.in-Err-turn.ensures.marks
    (omega (arith, i.within, c.in-Err-turn.ensures.fuel))

pub returns-in-Err-turn-clause-globals : goal.returns-in-Err-turn-clause-globals
returns-in-Err-turn-clause-globals c = c.in-Err-turn.ensures.globals ∙ c.turns.invariant.globals
