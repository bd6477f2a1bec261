use Rattle.std.proofs.Common.{◌≡◌, ℕ, ◌+◌, ◌-◌, ◌*◌, ◌≤◌, true, ◌∙◌, refl, sym, ap, subst, length, arith}
use Rattle.std.proofs.lemmas.Option.{same_Some}
use Rattle.wasm_types.specs.Tree.{module_tree}
use Rattle.wasm_spec.specs.Instances.{room_for}
use Rattle.wasm_spec.specs.Result.{CallResult}
use Rattle.wasm_spec.specs.Store.{Store}
use Rattle.memory_blocks.specs.Blocks.{KeepsUnmarked}
use Rattle.wasm_machine.specs.Lent.{lent_store, run_terms}
use Rattle.pool_model.specs.Contents as contents
use Rattle.pool_model.specs.declared.kinds.Kind.{Kind}
use Rattle.pool_model.specs.Contents.{MemoryContents, turned}
use Rattle.pool_model.specs.Runs.{LeavesFrom}
use Rattle.paused_call.specs.Standing.{CanResume, Stands, upto, whole}
use Rattle.memory_slots.specs.Kept.{contents_of}
use Rattle.memory_slots.specs.Lent.{IsReady, dirty_blocks, parts, store_in}
use Rattle.memory_slots.proofs.LentLemmas.{room_within, is_memory, is_ready, is_kept, memory_left, globals_left, globals_there, parts_left, marks_are}
use Rattle.memory_slots.proofs.slot.MemSlot.resume.Goals as goal

pub resume-requires-clause-stands : goal.resume-requires-clause-stands
resume-requires-clause-stands g c =
    let limits = run_terms c.args.inputs.now in
    subst (λ (x : MemoryContents). CanResume c.args.inputs.now.valid.now limits c.args.args.now c.args.call.now c.args.stacks.now (store_in c.args.inputs.now.valid.now x c.args.inputs.now.table.now c.args.globals.now c.args.answer.now)) (sym c.self.view_is) c.requires.stands

pub resume-requires-clause-memory : goal.resume-requires-clause-memory
resume-requires-clause-memory g c =
    let config = g.N.Naming.config in
    let most : ℕ = room_for c.args.inputs.now.valid.now.memories c.args.inputs.now.limits.pages in
    is_memory config most c.self.inside.memory c.self.inside.holds c.self.invariant.image.kept (room_within c.args.inputs.now.valid.now.memories c.args.inputs.now.limits.pages config.pages c.requires.pages)
    (subst (IsReady most) (sym c.self.view_is) c.requires.ready) c.self.invariant.accessible

pub invariant_of-self : goal.invariant_of-self
invariant_of-self g c =
    let config = g.N.Naming.config in
    let m = c.args.inputs.now.valid.now in
    let limits = run_terms c.args.inputs.now in
    let old = c.self.inside.memory in
    let new = c.resume.new.memory in
    let (begun, h) = c.requires.stands in
    let inside = subst (λ (x : MemoryContents). Stands m limits begun c.args.args.now c.args.call.now c.args.stacks.now (store_in m x c.args.inputs.now.table.now c.args.globals.now c.args.answer.now)) (sym c.self.view_is) h in
    let went = c.resume.ensures.went begun inside in
    let room = went.marks.changes.room in
    let within = h.within in
    let all : KeepsUnmarked old.bytes.items went.at.store.memory old.marks.items new.marks.items =
    went.marked (upto c.args.call.now c.args.slice) went.at (omega arith) (omega arith) went.gives in
    record {
      image = record {
        kept = is_kept config (room_for m.memories c.args.inputs.now.limits.pages) old new c.self.inside.holds c.self.invariant.image.kept c.resume.ensures.memory room
            (room_within m.memories c.args.inputs.now.limits.pages config.pages c.requires.pages)
            (subst (λ (s : Store). KeepsUnmarked old.bytes.items s.memory old.marks.items new.marks.items) went.shows all);
        blocks = c.self.invariant.image.blocks ∙ sym room.marks;
        zeros = λ i lt free. c.self.invariant.image.zeros i (omega (arith, lt, room.bytes)) free;
        least = c.self.invariant.image.least;
      };
      accessible = c.resume.ensures.memory.accessible;
    }

pub returns-clause-turned : goal.returns-clause-turned
returns-clause-turned g c begun h =
    let m = c.args.inputs.now.valid.now in
    let limits = run_terms c.args.inputs.now in
    c.resume.ensures.turned begun (subst (λ (x : MemoryContents). Stands m limits begun c.args.args.now c.args.call.now c.args.stacks.now (store_in m x c.args.inputs.now.table.now c.args.globals.now c.args.answer.now)) (sym c.self.view_is) h)

pub returns-clause-stands : goal.returns-clause-stands
returns-clause-stands g c again begun h =
    let m = c.args.inputs.now.valid.now in
    let limits = run_terms c.args.inputs.now in
    c.resume.ensures.stands again begun (subst (λ (x : MemoryContents). Stands m limits begun c.args.args.now c.args.call.now c.args.stacks.now (store_in m x c.args.inputs.now.table.now c.args.globals.now c.args.answer.now)) (sym c.self.view_is) h)

pub returns-clause-left : goal.returns-clause-left
returns-clause-left g c begun h =
    let m = c.args.inputs.now.valid.now in
    let limits = run_terms c.args.inputs.now in
    c.resume.ensures.left begun (subst (λ (x : MemoryContents). Stands m limits begun c.args.args.now c.args.call.now c.args.stacks.now (store_in m x c.args.inputs.now.table.now c.args.globals.now c.args.answer.now)) (sym c.self.view_is) h)

pub returns-clause-ready : goal.returns-clause-ready
returns-clause-ready g c =
    let m = c.args.inputs.now.valid.now in
    let limits = run_terms c.args.inputs.now in
    let (begun, h) = c.requires.stands in
    let inside = subst (λ (x : MemoryContents). Stands m limits begun c.args.args.now c.args.call.now c.args.stacks.now (store_in m x c.args.inputs.now.table.now c.args.globals.now c.args.answer.now)) (sym c.self.view_is) h in
    is_ready g.N.Naming.config (room_for m.memories c.args.inputs.now.limits.pages) c.self.inside.memory c.resume.new.memory c.self.inside.holds c.self.invariant.image.kept c.resume.ensures.memory (c.resume.ensures.went begun inside).marks.changes.room

pub returns-clause-counted : goal.returns-clause-counted
returns-clause-counted g c few begun h r is =
    let m = c.args.inputs.now.valid.now in
    let limits = run_terms c.args.inputs.now in
    let inside = subst (λ (x : MemoryContents). Stands m limits begun c.args.args.now c.args.call.now c.args.stacks.now (store_in m x c.args.inputs.now.table.now c.args.globals.now c.args.answer.now)) (sym c.self.view_is) h in
    let went = c.resume.ensures.went begun inside in
    let same : went.at.fuel ≡ r.fuel = ap (λ (x : CallResult). x.fuel) (same_Some went.at r (sym went.gives ∙ is)) in
    let most = went.marks.few few in
    let counted = went.marks.changes.counted in
    subst (λ (x : MemoryContents). dirty_blocks (contents_of c.resume.new.memory c.self.inside.holds) ≤ dirty_blocks x + 2 * (upto c.args.call.now c.args.slice - c.args.call.now.turns - r.fuel)) c.self.view_is (omega arith)

pub returns-clause-leaves : goal.returns-clause-leaves
returns-clause-leaves g c begun h owner =
    let config = g.N.Naming.config in
    let m = c.args.inputs.now.valid.now in
    let limits = run_terms c.args.inputs.now in
    let old = c.self.inside.memory in
    let new = c.resume.new.memory in
    let holds = c.self.inside.holds in
    let table = c.args.inputs.now.table.now in
    let globals = c.args.globals.now in
    let most : ℕ = room_for m.memories c.args.inputs.now.limits.pages in
    let store = lent_store m new table c.resume.new.globals c.resume.new.answer in
    let there = globals_there m (store_in m c.args.self.now table globals c.args.answer.now) globals refl h.typed in
    let inside = subst (λ (x : MemoryContents). Stands m limits begun c.args.args.now c.args.call.now c.args.stacks.now (store_in m x table globals c.args.answer.now)) (sym c.self.view_is) h in
    let went = c.resume.ensures.went begun inside in
    let P : MemoryContents → Type 0 = λ x. LeavesFrom config.pages (module_tree m) (whole m limits c.args.call.now c.args.args.now begun) c.args.call.now.turns (upto c.args.call.now c.args.slice)
    (parts x owner table globals) (parts (contents_of new holds) owner table c.resume.new.globals) new.marks.items went.at in
    let Q : Store → Type 0 = λ s. (k : Kind) → contents.needs k (module_tree m) ≡ true → parts (contents_of new holds) owner table c.resume.new.globals k ≡ turned config.pages s new.marks.items k (parts (contents_of old holds) owner table globals k) in (
      went.at,
      subst P c.self.view_is (record {
        gives = went.gives;
        left = subst Q (sym went.shows) (parts_left config.pages (module_tree m) store (contents_of old holds) (contents_of new holds) owner table globals c.resume.new.globals
            (memory_left config most old new holds c.self.invariant.image.kept c.resume.ensures.memory went.marks.changes.room store refl) refl
            (globals_left (length m.globals) globals c.resume.new.globals there c.resume.ensures.globals c.resume.ensures.others));
        marked = λ needed turns r late early is. marks_are config.pages old.bytes.items r.store.memory old.marks.items new.marks.items (went.marked turns r late early is);
        still = λ needed out same. went.still out same;
      }),
    )
