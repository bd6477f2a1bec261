use Rattle.wasm_spec.specs.Execution.{Terms}
use Rattle.std.proofs.Common.{◌≡◌, Option, None, Some, ap, sym, subst, refl}
use Rattle.wasm_values.specs.declared.outcome.TrapKind.{TrapKind}
use Rattle.wasm_types.specs.declared.instr.Instr.{Instr}
use Rattle.wasm_types.specs.declared.instr.Instr.TheVariants as instr
use Rattle.wasm_types.specs.Tree.{ModuleTree}
use Rattle.wasm_spec.specs.Store.{Store}
use Rattle.wasm_spec.specs.Execution.{with_operands}
use Rattle.machine_steps.specs.declared.machine.Machine.{Machine}
use Rattle.machine_steps.specs.Configuration.{state}
use Rattle.machine_steps.specs.Lent.{store_of}
use Rattle.machine_steps.specs.PlainSteps.{Executes, effect_unless, trap_of}
use Rattle.machine_steps.specs.declared.plain.Effect.{Effect}
use Rattle.machine_steps.proofs.KindLemmas.{top_there, drop_means, after_as}
use Rattle.machine_steps.specs.WrittenParts.{MarksWritten}
use Rattle.machine_steps.proofs.PartLemmas.{as_written}
use Rattle.machine_steps.proofs.machine.Machine.plain.Goals as goal

as_instr : (m : ModuleTree) (limits : Terms) (i j : Instr) (old new : Machine) (before after : Store) (o : Option TrapKind) → i ≡ j → Executes m limits j old before o new after → Executes m limits i old before o new after
as_instr m limits i j old new before after o e d = subst (λ (x : Instr). Executes m limits x old before o new after) (sym e) d

said : (o : Option TrapKind) (e : Effect) → e ≡ effect_unless o → o ≡ trap_of e
said None e is = ap trap_of (sym is)
said (Some t) e is = ap trap_of (sym is)

pub returns-in-Drop-clause-does : goal.returns-in-Drop-clause-does
returns-in-Drop-clause-does c m limits table answer most stays =
    let store : Store = store_of c.args.memory.now table c.args.globals.now answer in
    as_instr m limits c.args.instr.now instr.Drop c.args.self.now c.pop.new.self store store None c.in-Drop.is (λ k sh fine.
    let (x, rest, are) = top_there k.operands (λ x vs. with_operands vs (state k store)) fine in
    after_as m limits instr.Drop k store store _ None c.pop.new.self (drop_means m limits k store x rest are) ((c.pop.ensures.represents k x rest sh are).1, refl))

pub returns-in-Select-clause-does : goal.returns-in-Select-clause-does
returns-in-Select-clause-does c m limits table answer most stays =
    let store : Store = store_of c.args.memory.now table c.args.globals.now answer in
    as_instr m limits c.args.instr.now instr.Select c.args.self.now c.select.new.self store store None c.in-Select.is (c.select.ensures.does m limits store)

pub returns-in-LocalGet-clause-does : goal.returns-in-LocalGet-clause-does
returns-in-LocalGet-clause-does c m limits table answer most stays =
    let store : Store = store_of c.args.memory.now table c.args.globals.now answer in
    as_instr m limits c.args.instr.now (instr.LocalGet c.in-LocalGet.x) c.args.self.now c.get_local.new.self store store None c.in-LocalGet.is (c.get_local.ensures.does m limits store)

pub returns-in-LocalSet-clause-does : goal.returns-in-LocalSet-clause-does
returns-in-LocalSet-clause-does c m limits table answer most stays =
    let store : Store = store_of c.args.memory.now table c.args.globals.now answer in
    as_instr m limits c.args.instr.now (instr.LocalSet c.in-LocalSet.x) c.args.self.now c.set_local.new.self store store None c.in-LocalSet.is (c.set_local.ensures.does m limits store)

pub returns-in-LocalTee-clause-does : goal.returns-in-LocalTee-clause-does
returns-in-LocalTee-clause-does c m limits table answer most stays =
    let store : Store = store_of c.args.memory.now table c.args.globals.now answer in
    as_instr m limits c.args.instr.now (instr.LocalTee c.in-LocalTee.x) c.args.self.now c.tee_local.new.self store store None c.in-LocalTee.is (c.tee_local.ensures.does m limits store)

pub returns-in-GlobalGet-clause-does : goal.returns-in-GlobalGet-clause-does
returns-in-GlobalGet-clause-does c m limits table answer most stays =
    let store : Store = store_of c.args.memory.now table c.args.globals.now answer in
    as_instr m limits c.args.instr.now (instr.GlobalGet c.in-GlobalGet.x) c.args.self.now c.get_global.new.self store store None c.in-GlobalGet.is (c.get_global.ensures.does m limits store refl)

pub returns-in-GlobalSet-clause-does : goal.returns-in-GlobalSet-clause-does
returns-in-GlobalSet-clause-does c m limits table answer most stays =
    let store : Store = store_of c.args.memory.now table c.args.globals.now answer in
    let after : Store = store_of c.args.memory.now table c.set_global.new.globals answer in
    as_instr m limits c.args.instr.now (instr.GlobalSet c.in-GlobalSet.x) c.args.self.now c.set_global.new.self store after None c.in-GlobalSet.is (c.set_global.ensures.does m limits store refl)

pub returns-in-MemorySize-clause-does : goal.returns-in-MemorySize-clause-does
returns-in-MemorySize-clause-does c m limits table answer most stays =
    let store : Store = store_of c.args.memory.now table c.args.globals.now answer in
    as_instr m limits c.args.instr.now instr.MemorySize c.args.self.now c.memory_size.new.self store store None c.in-MemorySize.is (c.memory_size.ensures.does m limits table c.args.globals.now answer)

pub returns-in-MemoryGrow-clause-does : goal.returns-in-MemoryGrow-clause-does
returns-in-MemoryGrow-clause-does c m limits table answer most stays =
    let store : Store = store_of c.args.memory.now table c.args.globals.now answer in
    let after : Store = store_of c.memory_grow.new.memory table c.args.globals.now answer in
    as_instr m limits c.args.instr.now instr.MemoryGrow c.args.self.now c.memory_grow.new.self store after None c.in-MemoryGrow.is (c.memory_grow.ensures.does m limits table c.args.globals.now answer most)

pub returns-in-MemoryCopy-clause-does : goal.returns-in-MemoryCopy-clause-does
returns-in-MemoryCopy-clause-does c m limits table answer most stays =
    let before : Store = store_of c.args.memory.now table c.args.globals.now answer in
    let after : Store = store_of c.memory_copy.new.memory table c.args.globals.now answer in
    as_instr m limits c.args.instr.now instr.MemoryCopy c.args.self.now c.memory_copy.new.self before after (trap_of c.unless_trapped.result) c.in-MemoryCopy.is
    (subst (λ (o : Option TrapKind). Executes m limits instr.MemoryCopy c.args.self.now before o c.memory_copy.new.self after) (said c.memory_copy.result c.unless_trapped.result c.unless_trapped.ensures) (c.memory_copy.ensures.does m limits table c.args.globals.now answer))

pub returns-in-MemoryFill-clause-does : goal.returns-in-MemoryFill-clause-does
returns-in-MemoryFill-clause-does c m limits table answer most stays =
    let before : Store = store_of c.args.memory.now table c.args.globals.now answer in
    let after : Store = store_of c.memory_fill.new.memory table c.args.globals.now answer in
    as_instr m limits c.args.instr.now instr.MemoryFill c.args.self.now c.memory_fill.new.self before after (trap_of c.unless_trapped-in-MemoryFill.result) c.in-MemoryFill.is
    (subst (λ (o : Option TrapKind). Executes m limits instr.MemoryFill c.args.self.now before o c.memory_fill.new.self after) (said c.memory_fill.result c.unless_trapped-in-MemoryFill.result c.unless_trapped-in-MemoryFill.ensures) (c.memory_fill.ensures.does m limits table c.args.globals.now answer))

pub returns-in-Compare-clause-does : goal.returns-in-Compare-clause-does
returns-in-Compare-clause-does c m limits table answer most stays =
    let store : Store = store_of c.args.memory.now table c.args.globals.now answer in
    let i : Instr = instr.Compare c.in-Compare.width c.in-Compare.op in
    as_instr m limits c.args.instr.now i c.args.self.now c.on_two.new.self store store (trap_of c.unless_trapped-in-Compare.result) c.in-Compare.is
    (subst (λ (o : Option TrapKind). Executes m limits i c.args.self.now store o c.on_two.new.self store) (said c.on_two.result c.unless_trapped-in-Compare.result c.unless_trapped-in-Compare.ensures) (c.on_two.ensures.does m limits store))

pub returns-in-Binary-clause-does : goal.returns-in-Binary-clause-does
returns-in-Binary-clause-does c m limits table answer most stays =
    let store : Store = store_of c.args.memory.now table c.args.globals.now answer in
    let i : Instr = instr.Binary c.in-Binary.width c.in-Binary.op in
    as_instr m limits c.args.instr.now i c.args.self.now c.on_two-in-Binary.new.self store store (trap_of c.unless_trapped-in-Binary.result) c.in-Binary.is
    (subst (λ (o : Option TrapKind). Executes m limits i c.args.self.now store o c.on_two-in-Binary.new.self store) (said c.on_two-in-Binary.result c.unless_trapped-in-Binary.result c.unless_trapped-in-Binary.ensures) (c.on_two-in-Binary.ensures.does m limits store))

pub returns-in-MemoryCopy-clause-memory : goal.returns-in-MemoryCopy-clause-memory
returns-in-MemoryCopy-clause-memory c limit le is = c.memory_copy.ensures.memory limit is

pub returns-in-MemoryCopy-clause-marks : goal.returns-in-MemoryCopy-clause-marks
returns-in-MemoryCopy-clause-marks c =
    as_written c.args.instr.now instr.MemoryCopy c.args.self.now (trap_of c.unless_trapped.result) c.args.memory.now c.memory_copy.new.memory c.in-MemoryCopy.is
    (subst (λ (o : Option TrapKind). MarksWritten instr.MemoryCopy c.args.self.now o c.args.memory.now c.memory_copy.new.memory) (said c.memory_copy.result c.unless_trapped.result c.unless_trapped.ensures) c.memory_copy.ensures.marks)

pub returns-in-MemoryFill-clause-memory : goal.returns-in-MemoryFill-clause-memory
returns-in-MemoryFill-clause-memory c limit le is = c.memory_fill.ensures.memory limit is

pub returns-in-MemoryFill-clause-marks : goal.returns-in-MemoryFill-clause-marks
returns-in-MemoryFill-clause-marks c =
    as_written c.args.instr.now instr.MemoryFill c.args.self.now (trap_of c.unless_trapped-in-MemoryFill.result) c.args.memory.now c.memory_fill.new.memory c.in-MemoryFill.is
    (subst (λ (o : Option TrapKind). MarksWritten instr.MemoryFill c.args.self.now o c.args.memory.now c.memory_fill.new.memory) (said c.memory_fill.result c.unless_trapped-in-MemoryFill.result c.unless_trapped-in-MemoryFill.ensures) c.memory_fill.ensures.marks)

pub returns-in-Store-clause-memory : goal.returns-in-Store-clause-memory
returns-in-Store-clause-memory c limit le is = c.store.ensures.memory limit is

pub returns-in-Store-clause-marks : goal.returns-in-Store-clause-marks
returns-in-Store-clause-marks c =
    subst (λ (o : Option TrapKind). MarksWritten c.args.instr.now c.args.self.now o c.args.memory.now c.store.new.memory)
    (said c.store.result c.unless_trapped-in-Store.result c.unless_trapped-in-Store.ensures) c.store.ensures.marks
