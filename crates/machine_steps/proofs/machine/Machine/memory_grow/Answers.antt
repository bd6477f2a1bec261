use Rattle.std.proofs.Common.{ℕ, None, subst}
use Rattle.wasm_types.specs.declared.instr.Instr.TheVariants as instr
use Rattle.wasm_spec.specs.Store.{Store}
use Rattle.wasm_spec.specs.Execution as execution
use Rattle.machine_steps.specs.Configuration.{state}
use Rattle.linear_memory.specs.Bytes.{Grows}
use Rattle.machine_steps.specs.Lent.{store_of}
use Rattle.machine_steps.specs.PlainSteps.{EndsAs}
use Rattle.machine_steps.proofs.KindLemmas.{after_as}
use Rattle.machine_steps.proofs.AccessLemmas.{single_number, grow_of, grow_means, grow_after}
use Rattle.machine_steps.proofs.machine.Machine.memory_grow.Goals as goal

pub pop32-pages-requires : goal.pop32-pages-requires
pop32-pages-requires c =
    let h = c.requires.can in
    let t = grow_of h.defined h.limits h.configuration h.store h.fine in
    record { configuration = h.configuration; represents = h.represents; top = t.n; rest = t.rest; are = single_number h.configuration.operands t }

pub returns-clause-does : goal.returns-clause-does
returns-clause-does c m limits table globals answer most k sh fine =
    let (limit, is, le) = c.requires.memory in
    let store : Store = store_of c.args.memory.now table globals answer in
    let after : Store = store_of c.grow.new.self table globals answer in
    let t = grow_of m limits k store fine in
    let p = c.pop32-pages.ensures.represents k t.n t.rest sh (single_number k.operands t) in
    let grown : Grows c.args.most t.n c.args.memory.now c.grow.result c.grow.new.self = subst (λ (n : ℕ). Grows c.args.most n c.args.memory.now c.grow.result c.grow.new.self) p.0 c.grow.ensures.grown in
    after_as m limits instr.MemoryGrow k store after _ None c.push32.new.self (grow_means m limits k store t)
    (subst (λ (n : ℕ). EndsAs (execution.grow n t.n t.rest (state k store)) k None c.push32.new.self after) most
    (grow_after c.grow.result c.args.most t.n c.unwrap_or-before.result limit k t.rest c.push32.new.self c.args.memory.now c.grow.new.self table globals answer is grown c.unwrap_or-before.ensures
    (c.push32.ensures.represents (record k { operands = t.rest }) p.1)))
