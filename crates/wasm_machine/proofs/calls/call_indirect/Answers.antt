use Rattle.std.proofs.Common.{◌≡◌, ℕ, List, Option, Some, None, sym, ap, ◌∙◌, refl}
use Rattle.std.specs.Prelude.{slice_get}
use Rattle.wasm_spec.specs.Store.{Store}
use Rattle.wasm_machine.specs.Simulation.{paid}
use Rattle.wasm_machine.proofs.MarkLemmas.{marks_none}
use Rattle.wasm_machine.proofs.PlaceLemmas.{keeps_on}
use Rattle.wasm_machine.proofs.IndirectCallLemmas.{member, element_number, no_element, empty_element, other_type, element_calls}
use Rattle.wasm_spec.specs.Execution.{terms_of}
use Rattle.machine_steps.specs.Lent.{store_of}
use Rattle.wasm_machine.proofs.calls.call_indirect.Goals as goal

-- what the store's table has there
read : (store : Store) (table : List (Option ℕ)) (i : ℕ) (o : Option (Option ℕ)) → store.table ≡ table → o ≡ slice_get table i → slice_get store.table i ≡ o
read store table i o e is = ap (λ (t : List (Option ℕ)). slice_get t i) e ∙ sym is

pub pop32-i-requires : goal.pop32-i-requires
pop32-i-requires c =
    let e = c.requires.can in
    element_number c.args.inputs.now.m.now (terms_of c.args.inputs.now.limits c.args.inputs.now.request.now) e.frame c.args.machine.now e.store e.here c.args.x e.to e.before

pub returns-in-None-clause-steps : goal.returns-in-None-clause-steps
returns-in-None-clause-steps c frame globals here r run b =
    let store : Store = store_of c.args.memory.now c.args.inputs.now.table.now globals c.args.answer.now in
    no_element c.args.inputs.now.m.now (terms_of c.args.inputs.now.limits c.args.inputs.now.request.now) frame c.args.machine.now c.pop32-i.new.self store here c.args.x c.pop32-i.result r b c.pop32-i.ensures.represents
    (read store c.args.inputs.now.table.now c.pop32-i.result None refl c.in-None.ensures)

pub returns-in-Some-None-clause-steps : goal.returns-in-Some-None-clause-steps
returns-in-Some-None-clause-steps c frame globals here r run b =
    let store : Store = store_of c.args.memory.now c.args.inputs.now.table.now globals c.args.answer.now in
    let got : Some None ≡ slice_get c.args.inputs.now.table.now c.pop32-i.result = cc (c.element_at.ensures, c.in-Some-None.is, c.in-Some-None.field-0-is) in
    empty_element c.args.inputs.now.m.now (terms_of c.args.inputs.now.limits c.args.inputs.now.request.now) frame c.args.machine.now c.pop32-i.new.self store here c.args.x c.pop32-i.result r b c.pop32-i.ensures.represents
    (read store c.args.inputs.now.table.now c.pop32-i.result (Some None) refl got)

pub returns-then-has_type-clause-steps : goal.returns-then-has_type-clause-steps
returns-then-has_type-clause-steps c frame globals here r run b =
    let store : Store = store_of c.args.memory.now c.args.inputs.now.table.now globals c.args.answer.now in
    let m = c.args.inputs.now.m.now in
    let y : ℕ = c.in-Some-Some.y in
    let got : Some (Some y) ≡ slice_get c.args.inputs.now.table.now c.pop32-i.result = cc (c.element_at.ensures, c.in-Some-Some.is, c.in-Some-Some.field-0-is) in
    let there = read store c.args.inputs.now.table.now c.pop32-i.result (Some (Some y)) refl got in
    c.call.ensures.steps frame c.args.inputs.now.table.now globals (paid r) run
    (element_calls m (terms_of c.args.inputs.now.limits c.args.inputs.now.request.now) frame c.args.machine.now c.pop32-i.new.self store here c.args.x c.pop32-i.result r b c.pop32-i.ensures.represents y
    (member m frame y run (b.stored.table c.pop32-i.result y there)) there c.has_type.result c.has_type.ensures c.if-has_type.true c.pop32-i.ensures.room)

pub returns-else-has_type-clause-steps : goal.returns-else-has_type-clause-steps
returns-else-has_type-clause-steps c frame globals here r run b =
    let store : Store = store_of c.args.memory.now c.args.inputs.now.table.now globals c.args.answer.now in
    let m = c.args.inputs.now.m.now in
    let y : ℕ = c.in-Some-Some.y in
    let got : Some (Some y) ≡ slice_get c.args.inputs.now.table.now c.pop32-i.result = cc (c.element_at.ensures, c.in-Some-Some.is, c.in-Some-Some.field-0-is) in
    let there = read store c.args.inputs.now.table.now c.pop32-i.result (Some (Some y)) refl got in
    other_type m (terms_of c.args.inputs.now.limits c.args.inputs.now.request.now) frame c.args.machine.now c.pop32-i.new.self store here c.args.x c.pop32-i.result r b c.pop32-i.ensures.represents y
    (member m frame y run (b.stored.table c.pop32-i.result y there)) there c.has_type.result c.has_type.ensures c.if-has_type.false

pub call-requires-clause-can : goal.call-requires-clause-can
call-requires-clause-can c =
    let h = c.requires.can in
    let m = c.args.inputs.now.m.now in
    let limits = terms_of c.args.inputs.now.limits c.args.inputs.now.request.now in
    let y : ℕ = c.in-Some-Some.y in
    let got : Some (Some y) ≡ slice_get c.args.inputs.now.table.now c.pop32-i.result = cc (c.element_at.ensures, c.in-Some-Some.is, c.in-Some-Some.field-0-is) in
    let there = read h.store c.args.inputs.now.table.now c.pop32-i.result (Some (Some y)) h.tabled got in
    record {
      frame = h.frame;
      store = h.store;
      to = paid h.to;
      runnable = h.runnable;
      calling = element_calls m limits h.frame c.args.machine.now c.pop32-i.new.self h.store h.here c.args.x c.pop32-i.result h.to h.before c.pop32-i.ensures.represents y
          (member m h.frame y h.runnable (h.before.stored.table c.pop32-i.result y there)) there c.has_type.result c.has_type.ensures c.if-has_type.true c.pop32-i.ensures.room;
    }

-- ---- the room and the marks that stay

pub returns-then-has_type-clause-room : goal.returns-then-has_type-clause-room
returns-then-has_type-clause-room c = keeps_on c.args.machine.now c.pop32-i.new.self c.call.new.machine c.pop32-i.ensures.room c.call.ensures.room

pub returns-in-None-clause-marks : goal.returns-in-None-clause-marks
returns-in-None-clause-marks c = marks_none c.args.inputs.now.m.now c.args.memory.now c.args.memory.now 0 refl

pub returns-in-Some-None-clause-marks : goal.returns-in-Some-None-clause-marks
returns-in-Some-None-clause-marks c = marks_none c.args.inputs.now.m.now c.args.memory.now c.args.memory.now 0 refl

pub returns-else-has_type-clause-marks : goal.returns-else-has_type-clause-marks
returns-else-has_type-clause-marks c = marks_none c.args.inputs.now.m.now c.args.memory.now c.args.memory.now 0 refl

pub returns-then-has_type-clause-marks : goal.returns-then-has_type-clause-marks
returns-then-has_type-clause-marks c = c.call.ensures.marks
