use Rattle.std.proofs.Common.{◌≡◌, ℕ, Some, ◌∙◌, sym, subst, arith}
use Rattle.wasm_types.specs.Tree.{module_tree}
use Rattle.wasm_spec.specs.Instances.{room_for}
use Rattle.wasm_spec.specs.Execution.{terms_of}
use Rattle.wasm_spec.specs.Result.{function_result}
use Rattle.memory_blocks.specs.Blocks.{KeepsUnmarked}
use Rattle.pool_model.specs.Contents.{MemoryContents, filled}
use Rattle.memory_slots.specs.Lent.{IsReady, store_in}
use Rattle.memory_slots.proofs.LentLemmas.{room_within, is_memory, is_ready, is_kept, marks_are}
use Rattle.memory_slots.proofs.slot.MemSlot.run.Goals as goal

pub run-requires-clause-memory : goal.run-requires-clause-memory
run-requires-clause-memory g c =
    let config = g.N.Naming.config in
    let most : ℕ = room_for c.args.valid.now.memories c.args.limits.pages in
    is_memory config most c.self.inside.memory c.self.inside.holds c.self.invariant.image.kept (room_within c.args.valid.now.memories c.args.limits.pages config.pages c.requires.pages)
    (subst (IsReady most) (sym c.self.view_is) c.requires.ready) c.self.invariant.accessible

pub invariant_of-self : goal.invariant_of-self
invariant_of-self g c =
    let config = g.N.Naming.config in
    record {
      image = record {
        kept = is_kept config (room_for c.args.valid.now.memories c.args.limits.pages) c.self.inside.memory c.run.new.memory c.self.inside.holds c.self.invariant.image.kept c.run.ensures.memory c.run.ensures.room
            (room_within c.args.valid.now.memories c.args.limits.pages config.pages c.requires.pages)
            (c.run.ensures.marked c.args.fuel _ (omega arith) c.run.ensures.result);
        blocks = c.self.invariant.image.blocks ∙ sym c.run.ensures.room.marks;
        zeros = λ i lt free. c.self.invariant.image.zeros i (omega (arith, lt, c.run.ensures.room.bytes)) free;
        least = c.self.invariant.image.least;
      };
      accessible = c.run.ensures.memory.accessible;
    }

pub returns-clause-ready : goal.returns-clause-ready
returns-clause-ready g c =
    is_ready g.N.Naming.config (room_for c.args.valid.now.memories c.args.limits.pages) c.self.inside.memory c.run.new.memory c.self.inside.holds c.self.invariant.image.kept c.run.ensures.memory c.run.ensures.room

pub returns-clause-marked : goal.returns-clause-marked
returns-clause-marked g c turns r le is =
    let config = g.N.Naming.config in
    let m = c.args.valid.now in
    let old = c.self.inside.memory in
    let new = c.run.new.memory in
    let P : MemoryContents → Type 0 = λ x. function_result (module_tree m) (terms_of c.args.limits c.args.request.now) c.args.function c.args.args.now (store_in m x c.args.table.now c.args.globals.now c.args.answer.now) turns ≡ Some r
    → KeepsUnmarked x.bytes (filled config.pages r.store.memory) x.marks new.marks.items in
    subst P c.self.view_is (λ same. marks_are config.pages old.bytes.items r.store.memory old.marks.items new.marks.items (c.run.ensures.marked turns r le same)) is
