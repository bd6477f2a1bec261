use Rattle.std.proofs.Common.{◌≡◌, List, Some, length, take, drop, refl, ap, sym, ◌∙◌, subst, arith, length-append, length-drop, length-take}
use Rattle.std.proofs.lemmas.List.{length-take-le}
use Rattle.std.proofs.lemmas.Slice.{drop-append-drop}
use Rattle.wasm_types.specs.declared.module.Module.{Module}
use Rattle.wasm_values.specs.declared.outcome.Val.{Val}
use Rattle.machine_steps.specs.Lent.{store_of}
use Rattle.machine_steps.proofs.StackLayoutLemmas.{room_kept}
use Rattle.wasm_machine.specs.Calls.{FitsFrame}
use Rattle.wasm_machine.specs.Lent.{run_store, run_terms}
use Rattle.wasm_machine.specs.Resuming.{Resumes}
use Rattle.wasm_machine.specs.Room.{StacksView}
use Rattle.wasm_machine.specs.Simulation.{Simulates, after}
use Rattle.wasm_machine.specs.TypedConfiguration.{IsTypedStore}
use Rattle.wasm_machine.proofs.ResultLemmas.{enough_globals, globals_back, runnable_as, stands_inside}
use Rattle.wasm_machine.proofs.stacks.Stacks.advance.Goals as goal

pub go_on-requires-clause-runs : goal.go_on-requires-clause-runs
go_on-requires-clause-runs c =
    let m : Module = c.args.inputs.now.valid.now in
    let n : Module = c.module-m.result.now in
    let limits = run_terms c.args.inputs.now in
    let inside = c.self.inside in
    let globals = c.args.globals.now in
    let before = run_store c.args.inputs.now c.args.memory.now globals c.args.answer.now in
    let frame = ap (λ (s : StacksView). s.room.frame) (sym c.self.view_is) in
    let run = runnable_as n m inside.frame c.module-m.ensures.same c.module-m.ensures.supported c.module-m.ensures.valid (subst (FitsFrame m) frame c.requires.frame) c.module-m.ensures.locals in
    let opened : Simulates m limits inside.frame inside.machine before c.requires.resumes.to = subst (λ (s : StacksView). Resumes m limits s before c.requires.resumes.to) (sym c.self.view_is) c.requires.resumes.resumes in
    (inside.frame, c.requires.resumes.to, run, stands_inside n m limits inside.frame inside.machine c.args.memory.now c.args.inputs.now.table.now globals c.args.answer.now c.len-count.result c.requires.resumes.to c.module-m.ensures.same c.len-count.ensures opened)

pub returns-clause-result : goal.returns-clause-result
returns-clause-result c r resumes =
    let m : Module = c.args.inputs.now.valid.now in
    let n : Module = c.module-m.result.now in
    let limits = run_terms c.args.inputs.now in
    let inside = c.self.inside in
    let globals = c.args.globals.now in
    let before = run_store c.args.inputs.now c.args.memory.now globals c.args.answer.now in
    let frame = ap (λ (s : StacksView). s.room.frame) (sym c.self.view_is) in
    let run = runnable_as n m inside.frame c.module-m.ensures.same c.module-m.ensures.supported c.module-m.ensures.valid (subst (FitsFrame m) frame c.requires.frame) c.module-m.ensures.locals in
    let opened : Simulates m limits inside.frame inside.machine before r = subst (λ (s : StacksView). Resumes m limits s before r) (sym c.self.view_is) resumes in
    let simulates = stands_inside n m limits inside.frame inside.machine c.args.memory.now c.args.inputs.now.table.now globals c.args.answer.now c.len-count.result r c.module-m.ensures.same c.len-count.ensures opened in
    let back = globals_back n m before globals c.go_on.new.globals (drop c.len-count.result globals) c.len-count.result c.module-m.ensures.same c.len-count.ensures refl resumes.stored c.go_on.ensures.globals in
    c.go_on.ensures.result inside.frame r run simulates
    ∙ ap (λ (gs : List Val). Some (record { outcome = c.go_on.result.outcome; store = store_of c.go_on.new.memory c.args.inputs.now.table.now gs c.go_on.new.answer; fuel = c.go_on.result.left })) back

pub returns-clause-ended : goal.returns-clause-ended
returns-clause-ended c ended r resumes more =
    let m : Module = c.args.inputs.now.valid.now in
    let n : Module = c.module-m.result.now in
    let limits = run_terms c.args.inputs.now in
    let inside = c.self.inside in
    let globals = c.args.globals.now in
    let before = run_store c.args.inputs.now c.args.memory.now globals c.args.answer.now in
    let frame = ap (λ (s : StacksView). s.room.frame) (sym c.self.view_is) in
    let run = runnable_as n m inside.frame c.module-m.ensures.same c.module-m.ensures.supported c.module-m.ensures.valid (subst (FitsFrame m) frame c.requires.frame) c.module-m.ensures.locals in
    let opened : Simulates m limits inside.frame inside.machine before r = subst (λ (s : StacksView). Resumes m limits s before r) (sym c.self.view_is) resumes in
    let simulates = stands_inside n m limits inside.frame inside.machine c.args.memory.now c.args.inputs.now.table.now globals c.args.answer.now c.len-count.result r c.module-m.ensures.same c.len-count.ensures opened in
    let back = globals_back n m before globals c.go_on.new.globals (drop c.len-count.result globals) c.len-count.result c.module-m.ensures.same c.len-count.ensures refl resumes.stored c.go_on.ensures.globals in
    c.go_on.ensures.ended ended inside.frame r run simulates more
    ∙ ap (λ (gs : List Val). Some (record { outcome = c.go_on.result.outcome; store = store_of c.go_on.new.memory c.args.inputs.now.table.now gs c.go_on.new.answer; fuel = more })) back

pub returns-clause-stands : goal.returns-clause-stands
returns-clause-stands c out r resumes =
    let m : Module = c.args.inputs.now.valid.now in
    let n : Module = c.module-m.result.now in
    let limits = run_terms c.args.inputs.now in
    let inside = c.self.inside in
    let globals = c.args.globals.now in
    let before = run_store c.args.inputs.now c.args.memory.now globals c.args.answer.now in
    let frame = ap (λ (s : StacksView). s.room.frame) (sym c.self.view_is) in
    let run = runnable_as n m inside.frame c.module-m.ensures.same c.module-m.ensures.supported c.module-m.ensures.valid (subst (FitsFrame m) frame c.requires.frame) c.module-m.ensures.locals in
    let opened : Simulates m limits inside.frame inside.machine before r = subst (λ (s : StacksView). Resumes m limits s before r) (sym c.self.view_is) resumes in
    let simulates = stands_inside n m limits inside.frame inside.machine c.args.memory.now c.args.inputs.now.table.now globals c.args.answer.now c.len-count.result r c.module-m.ensures.same c.len-count.ensures opened in
    let back = globals_back n m before globals c.go_on.new.globals (drop c.len-count.result globals) c.len-count.result c.module-m.ensures.same c.len-count.ensures refl resumes.stored c.go_on.ensures.globals in
    let there : Simulates m limits inside.frame c.go_on.new.machine (store_of c.go_on.new.memory c.args.inputs.now.table.now c.go_on.new.globals c.go_on.new.answer) (after c.args.fuel r) =
    subst (λ (k : Module). Simulates k limits inside.frame c.go_on.new.machine (store_of c.go_on.new.memory c.args.inputs.now.table.now c.go_on.new.globals c.go_on.new.answer) (after c.args.fuel r)) c.module-m.ensures.same
    (c.go_on.ensures.stands out inside.frame r run simulates) in
    subst (λ (gs : List Val). Simulates m limits inside.frame c.go_on.new.machine (store_of c.go_on.new.memory c.args.inputs.now.table.now gs c.go_on.new.answer) (after c.args.fuel r)) back there

pub returns-clause-marked : goal.returns-clause-marked
returns-clause-marked c r resumes =
    let m : Module = c.args.inputs.now.valid.now in
    let n : Module = c.module-m.result.now in
    let limits = run_terms c.args.inputs.now in
    let inside = c.self.inside in
    let globals = c.args.globals.now in
    let before = run_store c.args.inputs.now c.args.memory.now globals c.args.answer.now in
    let frame = ap (λ (s : StacksView). s.room.frame) (sym c.self.view_is) in
    let run = runnable_as n m inside.frame c.module-m.ensures.same c.module-m.ensures.supported c.module-m.ensures.valid (subst (FitsFrame m) frame c.requires.frame) c.module-m.ensures.locals in
    let opened : Simulates m limits inside.frame inside.machine before r = subst (λ (s : StacksView). Resumes m limits s before r) (sym c.self.view_is) resumes in
    c.go_on.ensures.marked inside.frame r run (stands_inside n m limits inside.frame inside.machine c.args.memory.now c.args.inputs.now.table.now globals c.args.answer.now c.len-count.result r c.module-m.ensures.same c.len-count.ensures opened)

pub go_on-requires-clause-memory : goal.go_on-requires-clause-memory
go_on-requires-clause-memory c = rw c.module-m.ensures.same c.requires.memory

pub returns-clause-left : goal.returns-clause-left
returns-clause-left c = c.go_on.ensures.left

pub returns-clause-memory : goal.returns-clause-memory
returns-clause-memory c = rw c.module-m.ensures.same at c.go_on.ensures.memory

pub returns-clause-store : goal.returns-clause-store
returns-clause-store c done =
    let m : Module = c.args.inputs.now.valid.now in
    let globals = c.args.globals.now in
    let before = run_store c.args.inputs.now c.args.memory.now globals c.args.answer.now in
    let back = globals_back c.module-m.result.now m before globals c.go_on.new.globals (drop c.len-count.result globals) c.len-count.result c.module-m.ensures.same c.len-count.ensures refl c.requires.resumes.resumes.stored c.go_on.ensures.globals in
    subst (λ (gs : List Val). IsTypedStore m (store_of c.go_on.new.memory c.args.inputs.now.table.now gs c.go_on.new.answer)) back
    (subst (λ (k : Module). IsTypedStore k (store_of c.go_on.new.memory c.args.inputs.now.table.now c.go_on.new.globals c.go_on.new.answer)) c.module-m.ensures.same (c.go_on.ensures.store done))

pub returns-clause-unspent : goal.returns-clause-unspent
returns-clause-unspent c = c.go_on.ensures.unspent

pub returns-clause-marks : goal.returns-clause-marks
returns-clause-marks c = rw c.module-m.ensures.same at c.go_on.ensures.marks

pub slice_bounds-go_on-end : goal.slice_bounds-go_on-end
slice_bounds-go_on-end c =
    let store = run_store c.args.inputs.now c.args.memory.now c.args.globals.now c.args.answer.now in
    enough_globals c.module-m.result.now c.args.inputs.now.valid.now store c.args.globals.now c.len-count.result c.module-m.ensures.same c.len-count.ensures refl c.requires.resumes.resumes.stored

pub invariant_of-self : goal.invariant_of-self
invariant_of-self c = room_kept _ _ _ _ c.self.invariant c.go_on.ensures.room

pub returns-clause-stacks : goal.returns-clause-stacks
returns-clause-stacks c = ap (λ (s : StacksView). s.room) c.self.view_is

pub slice_bounds-go_on-end-2 : goal.slice_bounds-go_on-end-2
slice_bounds-go_on-end-2 c =
    let store = run_store c.args.inputs.now c.args.memory.now c.args.globals.now c.args.answer.now in
    sym (length-take-le c.len-count.result c.args.globals.now (enough_globals c.module-m.result.now c.args.inputs.now.valid.now store c.args.globals.now c.len-count.result c.module-m.ensures.same c.len-count.ensures refl c.requires.resumes.resumes.stored))

pub returns-clause-globals : goal.returns-clause-globals
returns-clause-globals c =
    let count = c.len-count.result in
    let globals = c.args.globals.now in
    let long : length c.go_on.new.globals ≡ length (take count globals) = c.go_on.ensures.globals in
    omega (arith, long, length-append c.go_on.new.globals (drop count globals), length-take count globals, length-drop count globals)

pub returns-clause-others : goal.returns-clause-others
returns-clause-others c =
    let m : Module = c.args.inputs.now.valid.now in
    let count = c.len-count.result in
    let globals = c.args.globals.now in
    let store = run_store c.args.inputs.now c.args.memory.now globals c.args.answer.now in
    let many : count ≡ length m.globals = c.len-count.ensures ∙ ap (λ (p : Module). length p.globals) c.module-m.ensures.same in
    let enough = enough_globals c.module-m.result.now m store globals count c.module-m.ensures.same c.len-count.ensures refl c.requires.resumes.resumes.stored in
    let long : length c.go_on.new.globals ≡ length (take count globals) = c.go_on.ensures.globals in
    drop-append-drop count globals c.go_on.new.globals (length m.globals) (omega (arith, many)) (long ∙ length-take-le count globals enough)
