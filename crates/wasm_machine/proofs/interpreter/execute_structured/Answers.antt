use Rattle.wasm_spec.specs.Instances.{room_for}
use Rattle.std.proofs.Common.{◌+◌, ℕ, refl, arith, [], ap}
use Rattle.wasm_types.specs.declared.instr.Op.TheVariants as op
use Rattle.wasm_spec.specs.Typing.{result_types}
use Rattle.machine_steps.specs.Lent.{store_of}
use Rattle.wasm_machine.proofs.BlockLemmas.{block_goes, loop_goes}
use Rattle.wasm_machine.proofs.IfLemmas.{if_number, if_label, if_goes}
use Rattle.machine_steps.specs.StackLayout.{KeepsRoom}
use Rattle.wasm_machine.proofs.StepLemmas.{call_calls}
use Rattle.wasm_machine.proofs.FunctionLemmas.{stands_in}
use Rattle.wasm_machine.proofs.MarkLemmas.{marks_as, marks_none}
use Rattle.wasm_machine.proofs.RoomLemmas.{begun, fetched, block_label, loop_label, named_at, opened_after}
use Rattle.wasm_spec.specs.Execution.{terms_of}
use Rattle.machine_steps.specs.declared.machine.Position.{Position}
use Rattle.wasm_machine.proofs.interpreter.execute_structured.Goals as goal

pub enter_named-requires-clause-free : goal.enter_named-requires-clause-free
enter_named-requires-clause-free c =
    let (frame, globals, r, run, simulates) = c.requires.runs in
    let store = store_of c.args.memory.now c.args.inputs.now.table.now globals c.args.answer.now in
    let limits = terms_of c.args.inputs.now.limits c.args.inputs.now.request.now in
    let b = begun c.args.inputs.now.m.now limits frame c.args.machine.now store c.args.op.now (op.Block c.in-Block.t c.in-Block.q) r simulates c.requires.there c.in-Block.is in
    omega (arith, block_label c.args.inputs.now.m.now limits frame (fetched c.args.machine.now) store c.args.machine.now.at.place c.in-Block.q c.in-Block.t r b)

pub enter_block-requires : goal.enter_block-requires
enter_block-requires c =
    let (frame, globals, r, run, simulates) = c.requires.runs in
    let store = store_of c.args.memory.now c.args.inputs.now.table.now globals c.args.answer.now in
    let limits = terms_of c.args.inputs.now.limits c.args.inputs.now.request.now in
    let b = begun c.args.inputs.now.m.now limits frame c.args.machine.now store c.args.op.now (op.Loop c.in-Loop.field-0 c.in-Loop.q) r simulates c.requires.there c.in-Loop.is in
    omega (arith, loop_label c.args.inputs.now.m.now limits frame (fetched c.args.machine.now) store c.args.machine.now.at.place c.in-Loop.q c.in-Loop.field-0 r b)

pub returns-in-Block-clause-steps : goal.returns-in-Block-clause-steps
returns-in-Block-clause-steps c frame globals r run simulates =
    let m = c.args.inputs.now.m.now in
    let old = c.args.machine.now in
    let store = store_of c.args.memory.now c.args.inputs.now.table.now globals c.args.answer.now in
    let limits = terms_of c.args.inputs.now.limits c.args.inputs.now.request.now in
    let t = c.in-Block.t in
    let new = c.enter_named.new.machine in
    let inner : ℕ = new.at.sequence in
    let b = begun m limits frame old store c.args.op.now (op.Block t c.in-Block.q) r simulates c.requires.there c.in-Block.is in
    block_goes m limits frame (fetched old) new store old.at.place inner c.in-Block.q t r b
    (c.enter_named.ensures.opens b.configuration b.represents).0
    (λ k sh. opened_after k (fetched old) new (result_types t) (result_types t) (old.at.place + 1) inner refl sh (c.enter_named.ensures.opens k sh).1)
    c.enter_named.ensures.room

pub returns-in-Loop-clause-steps : goal.returns-in-Loop-clause-steps
returns-in-Loop-clause-steps c frame globals r run simulates =
    let m = c.args.inputs.now.m.now in
    let old = c.args.machine.now in
    let store = store_of c.args.memory.now c.args.inputs.now.table.now globals c.args.answer.now in
    let limits = terms_of c.args.inputs.now.limits c.args.inputs.now.request.now in
    let t = c.in-Loop.field-0 in
    let b = begun m limits frame old store c.args.op.now (op.Loop t c.in-Loop.q) r simulates c.requires.there c.in-Loop.is in
    loop_goes m limits frame (fetched old) c.enter_block.new.self store old.at.place c.named_by-inner.result c.in-Loop.q t r b
    (named_at m b.configuration (fetched old) c.named_by-inner.result c.in-Loop.q b.represents c.named_by-inner.ensures)
    (λ k sh. c.enter_block.ensures.represents k [] (result_types t) sh refl)
    c.enter_block.ensures.room

pub call-requires-clause-can : goal.call-requires-clause-can
call-requires-clause-can c =
    let (frame, globals, r, run, simulates) = c.requires.runs in
    let store = store_of c.args.memory.now c.args.inputs.now.table.now globals c.args.answer.now in
    let limits = terms_of c.args.inputs.now.limits c.args.inputs.now.request.now in
    let b = begun c.args.inputs.now.m.now limits frame c.args.machine.now store c.args.op.now (op.Call c.in-Call.x) r simulates c.requires.there c.in-Call.is in
    record { frame = frame; store = store; to = _; runnable = run; calling = call_calls c.args.inputs.now.m.now limits frame (fetched c.args.machine.now) store c.args.machine.now.at.place c.in-Call.x r b }

pub returns-in-Call-clause-steps : goal.returns-in-Call-clause-steps
returns-in-Call-clause-steps c frame globals r run simulates =
    let store = store_of c.args.memory.now c.args.inputs.now.table.now globals c.args.answer.now in
    let limits = terms_of c.args.inputs.now.limits c.args.inputs.now.request.now in
    let b = begun c.args.inputs.now.m.now limits frame c.args.machine.now store c.args.op.now (op.Call c.in-Call.x) r simulates c.requires.there c.in-Call.is in
    c.call.ensures.steps frame c.args.inputs.now.table.now globals _ run (call_calls c.args.inputs.now.m.now limits frame (fetched c.args.machine.now) store c.args.machine.now.at.place c.in-Call.x r b)

pub pop32-condition-requires : goal.pop32-condition-requires
pop32-condition-requires c =
    let (frame, globals, r, run, simulates) = c.requires.runs in
    let store = store_of c.args.memory.now c.args.inputs.now.table.now globals c.args.answer.now in
    let limits = terms_of c.args.inputs.now.limits c.args.inputs.now.request.now in
    let b = begun c.args.inputs.now.m.now limits frame c.args.machine.now store c.args.op.now (op.If c.in-If.t c.in-If.first c.in-If.second) r simulates c.requires.there c.in-If.is in
    if_number c.args.inputs.now.m.now limits frame (fetched c.args.machine.now) store c.args.machine.now.at.place c.in-If.first c.in-If.second c.in-If.t r b

pub enter_arm-requires-clause-free : goal.enter_arm-requires-clause-free
enter_arm-requires-clause-free c =
    let (frame, globals, r, run, simulates) = c.requires.runs in
    let store = store_of c.args.memory.now c.args.inputs.now.table.now globals c.args.answer.now in
    let limits = terms_of c.args.inputs.now.limits c.args.inputs.now.request.now in
    let b = begun c.args.inputs.now.m.now limits frame c.args.machine.now store c.args.op.now (op.If c.in-If.t c.in-If.first c.in-If.second) r simulates c.requires.there c.in-If.is in
    omega (arith, if_label c.args.inputs.now.m.now limits frame (fetched c.args.machine.now) c.pop32-condition.new.self store c.args.machine.now.at.place c.in-If.first c.in-If.second c.pop32-condition.result c.in-If.t r b c.pop32-condition.ensures.represents c.pop32-condition.ensures.room)

pub returns-in-If-clause-steps : goal.returns-in-If-clause-steps
returns-in-If-clause-steps c frame globals r run simulates =
    let m = c.args.inputs.now.m.now in
    let old = c.args.machine.now in
    let store = store_of c.args.memory.now c.args.inputs.now.table.now globals c.args.answer.now in
    let limits = terms_of c.args.inputs.now.limits c.args.inputs.now.request.now in
    let t = c.in-If.t in
    let first : ℕ = c.in-If.first in
    let second : ℕ = c.in-If.second in
    let mid = c.pop32-condition.new.self in
    let new = c.enter_arm.new.machine in
    let b = begun m limits frame old store c.args.op.now (op.If t first second) r simulates c.requires.there c.in-If.is in
    let keeps : KeepsRoom (fetched old) new = record {
      values = omega (arith, c.pop32-condition.ensures.room.values, c.enter_arm.ensures.room.values);
      labels = omega (arith, c.pop32-condition.ensures.room.labels, c.enter_arm.ensures.room.labels);
      frames = omega (arith, c.pop32-condition.ensures.room.frames, c.enter_arm.ensures.room.frames);
    } in
    if_goes m limits frame (fetched old) mid new store old.at.place new.at.sequence first second c.pop32-condition.result t r b c.pop32-condition.ensures.represents refl
    (λ k sh. (c.enter_arm.ensures.opens k sh).0) (λ k sh. (c.enter_arm.ensures.opens k sh).1) keeps

pub call_indirect-requires-clause-can : goal.call_indirect-requires-clause-can
call_indirect-requires-clause-can c =
    let (frame, globals, r, run, simulates) = c.requires.runs in
    let store = store_of c.args.memory.now c.args.inputs.now.table.now globals c.args.answer.now in
    let limits = terms_of c.args.inputs.now.limits c.args.inputs.now.request.now in
    record {
      frame = frame;
      store = store;
      here = c.args.machine.now.at.place;
      to = r;
      runnable = run;
      tabled = refl;
      before = begun c.args.inputs.now.m.now limits frame c.args.machine.now store c.args.op.now (op.CallIndirect c.in-CallIndirect.x) r simulates c.requires.there c.in-CallIndirect.is;
    }

pub returns-in-CallIndirect-clause-steps : goal.returns-in-CallIndirect-clause-steps
returns-in-CallIndirect-clause-steps c frame globals r run simulates =
    let store = store_of c.args.memory.now c.args.inputs.now.table.now globals c.args.answer.now in
    let limits = terms_of c.args.inputs.now.limits c.args.inputs.now.request.now in
    c.call_indirect.ensures.steps frame globals c.args.machine.now.at.place r run
    (begun c.args.inputs.now.m.now limits frame c.args.machine.now store c.args.op.now (op.CallIndirect c.in-CallIndirect.x) r simulates c.requires.there c.in-CallIndirect.is)

pub returns-in-Call-clause-memory : goal.returns-in-Call-clause-memory
returns-in-Call-clause-memory c = c.call.ensures.memory (room_for c.args.inputs.now.m.now.memories c.args.inputs.now.limits.pages) c.requires.memory

pub returns-in-CallIndirect-clause-memory : goal.returns-in-CallIndirect-clause-memory
returns-in-CallIndirect-clause-memory c = c.call_indirect.ensures.memory (room_for c.args.inputs.now.m.now.memories c.args.inputs.now.limits.pages) c.requires.memory

pub enter_arm-requires-clause-there : goal.enter_arm-requires-clause-there
enter_arm-requires-clause-there c =
    let (frame, globals, r, run, simulates) = c.requires.runs in
    let m = c.args.inputs.now.m.now in
    let store = store_of c.args.memory.now c.args.inputs.now.table.now globals c.args.answer.now in
    let limits = terms_of c.args.inputs.now.limits c.args.inputs.now.request.now in
    let b = begun m limits frame c.args.machine.now store c.args.op.now (op.If c.in-If.t c.in-If.first c.in-If.second) r simulates c.requires.there c.in-If.is in
    let h = if_number m limits frame (fetched c.args.machine.now) store c.args.machine.now.at.place c.in-If.first c.in-If.second c.in-If.t r b in
    let popped = c.pop32-condition.ensures.represents h.configuration h.top h.rest h.represents h.are in
    let function : Position → ℕ = λ at. at.function in
    omega (arith, b.around.there, ap function b.represents.at, ap function h.represents.at, ap function popped.1.at)

-- ---- where the machine stands, and the room and the marks that stay

pub enter_named-requires-clause-there : goal.enter_named-requires-clause-there
enter_named-requires-clause-there c =
    let (frame, globals, r, run, simulates) = c.requires.runs in
    stands_in c.args.inputs.now.m.now simulates.configuration c.args.machine.now simulates.represents simulates.typed.around.there

pub named_by-inner-requires : goal.named_by-inner-requires
named_by-inner-requires c =
    let (frame, globals, r, run, simulates) = c.requires.runs in
    stands_in c.args.inputs.now.m.now simulates.configuration c.args.machine.now simulates.represents simulates.typed.around.there

pub call-requires-clause-memory : goal.call-requires-clause-memory
call-requires-clause-memory c = (room_for c.args.inputs.now.m.now.memories c.args.inputs.now.limits.pages, c.requires.memory)

pub call_indirect-requires-clause-memory : goal.call_indirect-requires-clause-memory
call_indirect-requires-clause-memory c = (room_for c.args.inputs.now.m.now.memories c.args.inputs.now.limits.pages, c.requires.memory)

pub returns-in-Block-clause-room : goal.returns-in-Block-clause-room
returns-in-Block-clause-room c =
    let kept = c.enter_named.ensures.room in
    record { values = kept.values; labels = kept.labels; frames = kept.frames }

pub returns-in-Loop-clause-room : goal.returns-in-Loop-clause-room
returns-in-Loop-clause-room c =
    let kept = c.enter_block.ensures.room in
    record { values = kept.values; labels = kept.labels; frames = kept.frames }

pub returns-in-Call-clause-room : goal.returns-in-Call-clause-room
returns-in-Call-clause-room c =
    let kept = c.call.ensures.room in
    record { values = kept.values; labels = kept.labels; frames = kept.frames }

pub returns-in-CallIndirect-clause-room : goal.returns-in-CallIndirect-clause-room
returns-in-CallIndirect-clause-room c =
    let kept = c.call_indirect.ensures.room in
    record { values = kept.values; labels = kept.labels; frames = kept.frames }

pub returns-in-If-clause-room : goal.returns-in-If-clause-room
returns-in-If-clause-room c =
    let popped = c.pop32-condition.ensures.room in
    let kept = c.enter_arm.ensures.room in
    record { values = omega (arith, popped.values, kept.values); labels = omega (arith, popped.labels, kept.labels); frames = omega (arith, popped.frames, kept.frames) }

pub returns-in-Block-clause-marks : goal.returns-in-Block-clause-marks
returns-in-Block-clause-marks c = marks_none c.args.inputs.now.m.now c.args.memory.now c.args.memory.now 2 refl

pub returns-in-Loop-clause-marks : goal.returns-in-Loop-clause-marks
returns-in-Loop-clause-marks c = marks_none c.args.inputs.now.m.now c.args.memory.now c.args.memory.now 2 refl

pub returns-in-If-clause-marks : goal.returns-in-If-clause-marks
returns-in-If-clause-marks c = marks_none c.args.inputs.now.m.now c.args.memory.now c.args.memory.now 2 refl

pub returns-in-Call-clause-marks : goal.returns-in-Call-clause-marks
returns-in-Call-clause-marks c = let m = c.args.inputs.now.m.now in marks_as m m c.args.memory.now c.call.new.memory 2 refl c.call.ensures.marks

pub returns-in-CallIndirect-clause-marks : goal.returns-in-CallIndirect-clause-marks
returns-in-CallIndirect-clause-marks c = let m = c.args.inputs.now.m.now in marks_as m m c.args.memory.now c.call_indirect.new.memory 2 refl c.call_indirect.ensures.marks
