use Rattle.wasm_spec.specs.Execution.{Terms}
use Rattle.std.proofs.Common.{◌≡◌, ◌≢◌, ◌∙◌, ℕ, ◌+◌, ◌≤◌, List, [], ◌∷◌, arith, Option, refl, sym, ap, subst}
use Rattle.wasm_types.specs.declared.module.Module.{Module}
use Rattle.wasm_types.specs.declared.types.Limits.{Limits}
use Rattle.wasm_types.specs.Tree.{module_tree}
use Rattle.wasm_spec.specs.Instances.{room_for}
use Rattle.wasm_spec.specs.Store.{Store}
use Rattle.wasm_spec.specs.Execution.{Ended, most_pages}
use Rattle.machine_steps.specs.declared.machine.Machine.{Machine}
use Rattle.wasm_machine.specs.TypedConfiguration.{context}
use Rattle.machine_steps.specs.Lent.{store_of}
use Rattle.wasm_types.specs.Sequences.{code_at}
use Rattle.wasm_spec.specs.Bulk.{is_bulk, code_uses_bulk}
use Rattle.wasm_spec.proofs.NarrowModules.{neither}
use Rattle.wasm_machine.proofs.MarkLemmas.{marks_none, marks_of}
use Rattle.wasm_machine.specs.Simulation.{HasFetched, SimulatesUnlessTrapped, body_of, paid, placed, sequence_at}
use Rattle.wasm_machine.specs.Stretches.{place_of}
use Rattle.wasm_machine.proofs.PlaceLemmas.{can_placed, executes_placed, keeps_placed, ready_placed, stands}
use Rattle.wasm_machine.proofs.StepLemmas.{plain_done, plain_stays}
use Rattle.machine_steps.specs.declared.plain.Effect.{Effect}
use Rattle.machine_steps.specs.declared.plain.Effect.TheVariants as effect
use Rattle.machine_steps.specs.PlainSteps.{trap_of}
use Rattle.wasm_values.specs.declared.outcome.TrapKind.{TrapKind}
use Rattle.wasm_values.specs.declared.outcome.Val.{Val}
use Rattle.wasm_types.specs.declared.instr.Op.{Op}
use Rattle.wasm_types.specs.declared.instr.Op.TheVariants as op
use Rattle.linear_memory.specs.declared.memory.Memory.{Memory}
use Rattle.machine_steps.specs.declared.machine.Position.{Position}
use Rattle.wasm_types.specs.Sequences.{ops_of}
use Rattle.wasm_machine.specs.Remaining.{function_of}
use Rattle.wasm_machine.proofs.PreservationLemmas.{plain_preserved}
use Rattle.wasm_machine.proofs.ReadyLemmas.{plain_can, plain_ready}
use Rattle.wasm_spec.specs.Execution.{terms_of}
use Rattle.wasm_machine.proofs.interpreter.execute_plain.Goals as goal

-- the pages that the memory may have are within the limit
most_within : (memories : List Limits) (pages : ℕ) → most_pages memories pages ≤ room_for memories pages
most_within [] pages = omega arith
most_within (l ∷ ls) pages = omega arith

stays_apart : (e : Effect) → e ≡ effect.Stays → e ≢ effect.Jumps
stays_apart e s j = cc

traps_apart : (e : Effect) (t : TrapKind) → e ≡ effect.Traps t → e ≢ effect.Jumps
traps_apart e t s j = cc

-- a machine and a store at which nothing was done
same : (m : Module) (limits : Terms) (frame : ℕ) (machine machine' : Machine) (store store' : Store) (here : ℕ) (o : Op) (r : ℕ → Ended) → machine' ≡ machine → store' ≡ store → HasFetched m limits frame machine store here o r → HasFetched m limits frame machine' store' here o r
same m limits frame machine machine' store store' here o r e f b = subst (λ (s : Store). HasFetched m limits frame machine' s here o r) (sym f) (subst (λ (x : Machine). HasFetched m limits frame x store here o r) (sym e) b)

same_store : (memory memory' : Memory) (table : List (Option ℕ)) (globals globals' : List Val) (answer : List ℕ) → memory' ≡ memory → globals' ≡ globals → store_of memory' table globals' answer ≡ store_of memory table globals answer
same_store memory memory' table globals globals' answer e f = ap (λ (x : Memory). store_of x table globals' answer) e ∙ ap (λ (l : List Val). store_of memory table l answer) f

pub plain-requires-clause-can : goal.plain-requires-clause-can
plain-requires-clause-can c stays =
    let (frame, answer, r, run, b) = c.requires.runs in
    let store = store_of c.args.memory.now c.args.inputs.now.table.now c.args.globals.now answer in
    let at = placed c.args.machine.now (place_of c.args.ahead + 1) in
    can_placed c.args.instr.now c.args.machine.now (place_of c.args.ahead + 1)
    (plain_can c.args.inputs.now.m.now (terms_of c.args.inputs.now.limits c.args.inputs.now.request.now) frame at store (place_of c.args.ahead) r c.args.instr.now b stays)

pub plain-requires-clause-ready : goal.plain-requires-clause-ready
plain-requires-clause-ready c stays =
    let (frame, answer, r, run, b) = c.requires.runs in
    let store = store_of c.args.memory.now c.args.inputs.now.table.now c.args.globals.now answer in
    let at = placed c.args.machine.now (place_of c.args.ahead + 1) in
    ready_placed c.args.instr.now c.args.machine.now (place_of c.args.ahead + 1) c.args.globals.now
    (plain_ready c.args.inputs.now.m.now (terms_of c.args.inputs.now.limits c.args.inputs.now.request.now) frame at store (place_of c.args.ahead) r c.args.instr.now b stays)

pub plain-requires-clause-memory : goal.plain-requires-clause-memory
plain-requires-clause-memory c =
    let m = c.args.inputs.now.m.now in
    (room_for m.memories c.args.inputs.now.limits.pages, c.requires.memory, subst (λ (n : ℕ). n ≤ room_for m.memories c.args.inputs.now.limits.pages) (sym c.requires.most) (most_within m.memories c.args.inputs.now.limits.pages))

-- ---- it stays, or traps

pub returns-in-Stays-clause-steps : goal.returns-in-Stays-clause-steps
returns-in-Stays-clause-steps c frame answer r run b =
    let m = c.args.inputs.now.m.now in
    let limits = terms_of c.args.inputs.now.limits c.args.inputs.now.request.now in
    let store = store_of c.args.memory.now c.args.inputs.now.table.now c.args.globals.now answer in
    let after = store_of c.plain.new.memory c.args.inputs.now.table.now c.plain.new.globals answer in
    let i = c.args.instr.now in
    let behind : ℕ = place_of c.args.ahead + 1 in
    let old = placed c.args.machine.now behind in
    let new = placed c.plain.new.self behind in
    let stays = c.plain.ensures.stays (stays_apart c.plain.result c.in-Stays.is) in
    subst (λ (e : Effect). SimulatesUnlessTrapped (trap_of e) m limits frame new after (paid r)) c.in-Stays.is
    (plain_done m limits frame old new store after (place_of c.args.ahead) i (trap_of c.plain.result) r b
    (λ k middle takes locals. plain_preserved m limits (context m frame k.function k.blocks) refl i k store middle stays takes locals b.stored)
    (executes_placed (module_tree m) limits i c.args.machine.now store (trap_of c.plain.result) c.plain.new.self after behind
    (c.plain.ensures.does (module_tree m) limits c.args.inputs.now.table.now answer c.requires.most stays))
    (keeps_placed c.args.machine.now c.plain.new.self behind behind c.plain.ensures.room))

pub returns-in-Traps-clause-steps : goal.returns-in-Traps-clause-steps
returns-in-Traps-clause-steps c frame answer r run b =
    let m = c.args.inputs.now.m.now in
    let limits = terms_of c.args.inputs.now.limits c.args.inputs.now.request.now in
    let store = store_of c.args.memory.now c.args.inputs.now.table.now c.args.globals.now answer in
    let after = store_of c.plain.new.memory c.args.inputs.now.table.now c.plain.new.globals answer in
    let i = c.args.instr.now in
    let behind : ℕ = place_of c.args.ahead + 1 in
    let old = placed c.args.machine.now behind in
    let new = placed c.plain.new.self behind in
    let stays = c.plain.ensures.stays (traps_apart c.plain.result c.in-Traps.t c.in-Traps.is) in
    subst (λ (e : Effect). SimulatesUnlessTrapped (trap_of e) m limits frame new after (paid r)) c.in-Traps.is
    (plain_done m limits frame old new store after (place_of c.args.ahead) i (trap_of c.plain.result) r b
    (λ k middle takes locals. plain_preserved m limits (context m frame k.function k.blocks) refl i k store middle stays takes locals b.stored)
    (executes_placed (module_tree m) limits i c.args.machine.now store (trap_of c.plain.result) c.plain.new.self after behind
    (c.plain.ensures.does (module_tree m) limits c.args.inputs.now.table.now answer c.requires.most stays))
    (keeps_placed c.args.machine.now c.plain.new.self behind behind c.plain.ensures.room))

pub returns-in-Stays-clause-memory : goal.returns-in-Stays-clause-memory
returns-in-Stays-clause-memory c =
    let m = c.args.inputs.now.m.now in
    let room = room_for m.memories c.args.inputs.now.limits.pages in
    c.plain.ensures.memory room (subst (λ (n : ℕ). n ≤ room) (sym c.requires.most) (most_within m.memories c.args.inputs.now.limits.pages)) c.requires.memory

pub returns-in-Stays-clause-marks : goal.returns-in-Stays-clause-marks
returns-in-Stays-clause-marks c =
    let (frame, answer, r, run, b) = c.requires.runs in
    let m = c.args.inputs.now.m.now in
    let k = b.configuration in
    let i = c.args.instr.now in
    let store = store_of c.args.memory.now c.args.inputs.now.table.now c.args.globals.now answer in
    let can = can_placed i c.args.machine.now (place_of c.args.ahead + 1) (plain_can m (terms_of c.args.inputs.now.limits c.args.inputs.now.request.now) frame (placed c.args.machine.now (place_of c.args.ahead + 1)) store (place_of c.args.ahead) r i b (c.plain.ensures.stays (stays_apart c.plain.result c.in-Stays.is))) in
    marks_of m i c.args.machine.now (trap_of c.plain.result) c.args.memory.now c.plain.new.memory
    (λ e. (neither (is_bulk i) (code_uses_bulk (code_at (body_of m k) k.sequence k.place)) (b.typed.narrow e)).0) can c.plain.ensures.marks

pub returns-in-Traps-clause-memory : goal.returns-in-Traps-clause-memory
returns-in-Traps-clause-memory c =
    let m = c.args.inputs.now.m.now in
    let room = room_for m.memories c.args.inputs.now.limits.pages in
    c.plain.ensures.memory room (subst (λ (n : ℕ). n ≤ room) (sym c.requires.most) (most_within m.memories c.args.inputs.now.limits.pages)) c.requires.memory

pub returns-in-Traps-clause-marks : goal.returns-in-Traps-clause-marks
returns-in-Traps-clause-marks c =
    let (frame, answer, r, run, b) = c.requires.runs in
    let m = c.args.inputs.now.m.now in
    let k = b.configuration in
    let i = c.args.instr.now in
    let store = store_of c.args.memory.now c.args.inputs.now.table.now c.args.globals.now answer in
    let can = can_placed i c.args.machine.now (place_of c.args.ahead + 1) (plain_can m (terms_of c.args.inputs.now.limits c.args.inputs.now.request.now) frame (placed c.args.machine.now (place_of c.args.ahead + 1)) store (place_of c.args.ahead) r i b (c.plain.ensures.stays (traps_apart c.plain.result c.in-Traps.t c.in-Traps.is))) in
    marks_of m i c.args.machine.now (trap_of c.plain.result) c.args.memory.now c.plain.new.memory
    (λ e. (neither (is_bulk i) (code_uses_bulk (code_at (body_of m k) k.sequence k.place)) (b.typed.narrow e)).0) can c.plain.ensures.marks

pub returns-in-Jumps-clause-memory : goal.returns-in-Jumps-clause-memory
returns-in-Jumps-clause-memory c =
    let m = c.args.inputs.now.m.now in
    let room = room_for m.memories c.args.inputs.now.limits.pages in
    c.plain.ensures.memory room (subst (λ (n : ℕ). n ≤ room) (sym c.requires.most) (most_within m.memories c.args.inputs.now.limits.pages)) c.requires.memory

pub returns-in-Jumps-clause-marks : goal.returns-in-Jumps-clause-marks
returns-in-Jumps-clause-marks c =
    let (kind, machine, memory, globals) = c.plain.ensures.jumps c.in-Jumps.is in
    marks_none c.args.inputs.now.m.now c.args.memory.now c.plain.new.memory 2 memory

pub returns-in-Stays-clause-stays : goal.returns-in-Stays-clause-stays
returns-in-Stays-clause-stays c e =
    let (frame, answer, r, run, b) = c.requires.runs in
    let m = c.args.inputs.now.m.now in
    let limits = terms_of c.args.inputs.now.limits c.args.inputs.now.request.now in
    let store = store_of c.args.memory.now c.args.inputs.now.table.now c.args.globals.now answer in
    let after = store_of c.plain.new.memory c.args.inputs.now.table.now c.plain.new.globals answer in
    let i = c.args.instr.now in
    let behind : ℕ = place_of c.args.ahead + 1 in
    let old = placed c.args.machine.now behind in
    let new = placed c.plain.new.self behind in
    let stays = c.plain.ensures.stays (stays_apart c.plain.result c.in-Stays.is) in
    ap (λ (at : Position). ops_of (function_of m at.function).body at.sequence)
    (plain_stays m limits frame old new store after (place_of c.args.ahead) i (trap_of c.plain.result) r b (ap trap_of c.in-Stays.is)
    (λ k middle takes locals. plain_preserved m limits (context m frame k.function k.blocks) refl i k store middle stays takes locals b.stored)
    (executes_placed (module_tree m) limits i c.args.machine.now store (trap_of c.plain.result) c.plain.new.self after behind
    (c.plain.ensures.does (module_tree m) limits c.args.inputs.now.table.now answer c.requires.most stays)))

-- ---- it may leave its sequence, and nothing was done yet

pub jump-requires-clause-kind : goal.jump-requires-clause-kind
jump-requires-clause-kind c = (c.plain.ensures.jumps c.in-Jumps.is).0

pub place-here-requires : goal.place-here-requires
place-here-requires c = (sequence_at c.args.inputs.now.m.now c.args.machine.now, c.requires.next.lies)

pub jump-requires-clause-can : goal.jump-requires-clause-can
jump-requires-clause-can c =
    let (frame, answer, r, run, b) = c.requires.runs in
    let limits = terms_of c.args.inputs.now.limits c.args.inputs.now.request.now in
    let store = store_of c.args.memory.now c.args.inputs.now.table.now c.args.globals.now answer in
    let behind : ℕ = place_of c.args.ahead + 1 in
    let at : ℕ = c.place-here.result + 1 in
    record {
      limits = limits;
      frame = frame;
      store = store;
      here = place_of c.args.ahead;
      to = r;
      before = same c.args.inputs.now.m.now limits frame (placed c.args.machine.now behind) (placed c.plain.new.self at) store store (place_of c.args.ahead) (op.Plain c.args.instr.now) r
          (ap (λ (x : Machine). placed x at) (c.plain.ensures.jumps c.in-Jumps.is).1 ∙ ap (λ (n : ℕ). placed c.args.machine.now (n + 1)) c.place-here.ensures.is) refl b;
    }

pub returns-in-Jumps-clause-steps : goal.returns-in-Jumps-clause-steps
returns-in-Jumps-clause-steps c frame answer r run b =
    let m = c.args.inputs.now.m.now in
    let limits = terms_of c.args.inputs.now.limits c.args.inputs.now.request.now in
    let store = store_of c.args.memory.now c.args.inputs.now.table.now c.args.globals.now answer in
    let after = store_of c.plain.new.memory c.args.inputs.now.table.now c.plain.new.globals answer in
    let behind : ℕ = place_of c.args.ahead + 1 in
    let at : ℕ = c.place-here.result + 1 in
    let (kind, machine, memory, globals) = c.plain.ensures.jumps c.in-Jumps.is in
    stands c.jump.result behind m limits frame c.jump.new.machine after (paid r) (λ e. ap (λ (p : Position). p.place) (c.jump.ensures.stays e) ∙ ap (λ (n : ℕ). n + 1) c.place-here.ensures.is)
    (c.jump.ensures.steps limits frame after (place_of c.args.ahead) r
    (same m limits frame (placed c.args.machine.now behind) (placed c.plain.new.self at) store after (place_of c.args.ahead) (op.Plain c.args.instr.now) r
    (ap (λ (x : Machine). placed x at) machine ∙ ap (λ (n : ℕ). placed c.args.machine.now (n + 1)) c.place-here.ensures.is)
    (same_store c.args.memory.now c.plain.new.memory c.args.inputs.now.table.now c.args.globals.now c.plain.new.globals answer memory globals) b))

pub returns-in-Jumps-clause-stays : goal.returns-in-Jumps-clause-stays
returns-in-Jumps-clause-stays c e =
    let m = c.args.inputs.now.m.now in
    let (kind, machine, memory, globals) = c.plain.ensures.jumps c.in-Jumps.is in
    ap (λ (at : Position). ops_of (function_of m at.function).body at.sequence) (c.jump.ensures.stays e) ∙ ap (λ (x : Machine). ops_of (function_of m x.at.function).body x.at.sequence) machine
