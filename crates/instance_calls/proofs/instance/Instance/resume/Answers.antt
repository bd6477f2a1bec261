use Rattle.std.proofs.Common.{ℕ, Option, List, refl, sym, ap, subst, ◌∙◌}
use Rattle.std.specs.Prelude.{is_some}
use Rattle.wasm_types.specs.declared.module.Module.{Module}
use Rattle.wasm_values.specs.declared.outcome.Val.{Val}
use Rattle.wasm_types.specs.Tree.{module_tree}
use Rattle.wasm_spec.specs.Execution.{terms_of}
use Rattle.machine_steps.specs.Lent.{answer_set}
use Rattle.wasm_spec.specs.Instances.{room_for}
use Rattle.wasm_spec.specs.Store.{Store, fresh_store}
use Rattle.slot_words.specs.declared.leases.Lease.{Lease}
use Rattle.pool_model.specs.Contents.{Contents, MemoryContents, shown_store}
use Rattle.pool_model.specs.declared.kinds.Kind.{Kind}
use Rattle.pool_model.specs.Runs.{LeavesFrom}
use Rattle.memory_slots.specs.Lent.{IsReady, parts}
use Rattle.paused_call.specs.Fuel.{fuel_left}
use Rattle.paused_call.specs.Standing.{Stands, upto, whole}
use Rattle.instance_calls.specs.Parts.{memory_in, table_in}
use Rattle.instance_calls.specs.CallWords.{comes_of}
use Rattle.instance_calls.proofs.CallLemmas.{kept_on, sliced}
use Rattle.instance_calls.proofs.PausedLemmas.{IsLent, left_there, paused_there, shown_bare, shown_with, stands_with_memory, stands_without_memory, turned_there, went_there}
use Rattle.instance_calls.proofs.instance.Instance.resume.Given.{Over}
use Rattle.instance_calls.proofs.instance.Instance.resume.Goals as goal
use Rattle.instance_calls.proofs.instance.Instance.resume.Goals.{After-entries_of-table}

-- what both arms are lent
lent : (g : Over) (c : After-entries_of-table g)
    → IsLent g.N.Naming.config c.args.loaded.now.module.now c.args.request.now c.args.call.now c.args.answer.now c.args.self.now c.valid-valid.result.now c.limits_of-limits.result c.entries_of-table.result.now
lent g c = record { paused = c.requires.paused; code = c.valid-valid.ensures.code; limits_are = c.limits_of-limits.ensures; entries_are = c.entries_of-table.ensures }

-- the store that the call began from
abbrev from : (g : Over) → After-entries_of-table g → Store
from g c = fresh_store c.args.loaded.now.module.now.tree

-- the contents that a slice leaves: these of a memory and globals, and the table's
abbrev left : (g : Over) → After-entries_of-table g → MemoryContents → List Val → (k : Kind) → Contents k
left g c memory globals = parts memory (table_in c.args.self.now.table).holds (table_in c.args.self.now.table).entries globals

-- ---- with a memory

pub resume_with_memory-turned-requires-clause-stands : goal.resume_with_memory-turned-requires-clause-stands
resume_with_memory-turned-requires-clause-stands g c =
    let at = (goal.at.resume_with_memory-turned-requires-clause-stands g c).After-entries_of-table in
    (from g at, stands_with_memory (lent g at) c.in-Some.memory c.in-Some.is)

pub returns-in-Some-clause-sliced : goal.returns-in-Some-clause-sliced
returns-in-Some-clause-sliced g c =
    let at = (goal.at.returns-in-Some-clause-sliced g c).After-entries_of-table in
    let new = c.resume_with_memory-turned.new in
    let turned = turned_there (lent g at) c.args.slice c.resume_with_memory-turned.result _ new.answer (left g at new.memory new.ticket.globals)
    (shown_with (lent g at) c.in-Some.memory new.memory new.ticket.globals new.answer c.in-Some.is)
    (c.resume_with_memory-turned.ensures.turned (from g at) (stands_with_memory (lent g at) c.in-Some.memory c.in-Some.is)) in
    sliced (comes_of g.N.Naming.config c.args.loaded.now.module.now.tree c.args.request.now c.args.call.now.function c.args.self.now.ticket.value.args) c.args.call.now c.args.slice _ c.resume_with_memory-turned.result _ c.keep.ensures turned

pub returns-in-Some-clause-left : goal.returns-in-Some-clause-left
returns-in-Some-clause-left g c =
    let at = (goal.at.returns-in-Some-clause-left g c).After-entries_of-table in
    let ran = c.resume_with_memory-turned in
    left_there (lent g at) ran.result (fuel_left ran.new.call) (ran.ensures.left (from g at) (stands_with_memory (lent g at) c.in-Some.memory c.in-Some.is))

pub returns-in-Some-clause-paused : goal.returns-in-Some-clause-paused
returns-in-Some-clause-paused g c again =
    let at = (goal.at.returns-in-Some-clause-paused g c).After-entries_of-table in
    let new = c.resume_with_memory-turned.new in
    let valid = c.valid-valid.result.now in
    let ready = subst (λ (k : Module). IsReady (room_for k.memories g.N.Naming.config.pages) new.memory) c.valid-valid.ensures.code c.resume_with_memory-turned.ensures.ready in
    paused_there (lent g at) new.call c.keep.new.answer _ refl (ap (λ (o : Option (Lease MemoryContents)). is_some o) (sym c.in-Some.is)) (λ some. ready)
    (subst (λ (says : List ℕ). Stands valid (terms_of c.limits_of-limits.result c.args.request.now) (from g at) new.ticket.args new.call new.ticket.stacks (answer_set says (shown_store (module_tree valid) (left g at new.memory new.ticket.globals)))) (sym (c.keep.ensures ∙ kept_on c.resume_with_memory-turned.result new.answer again))
    (subst (λ (s : Store). Stands valid (terms_of c.limits_of-limits.result c.args.request.now) (from g at) new.ticket.args new.call new.ticket.stacks s)
    (shown_with (lent g at) c.in-Some.memory new.memory new.ticket.globals new.answer c.in-Some.is)
    (c.resume_with_memory-turned.ensures.stands again (from g at) (stands_with_memory (lent g at) c.in-Some.memory c.in-Some.is))))

pub returns-in-Some-clause-went : goal.returns-in-Some-clause-went
returns-in-Some-clause-went g c =
    let at = (goal.at.returns-in-Some-clause-went g c).After-entries_of-table in
    let config = g.N.Naming.config in
    let valid = c.valid-valid.result.now in
    let call = c.args.call.now in
    let self = c.args.self.now in
    let holds = (table_in self.table).holds in
    let entries = c.entries_of-table.result.now in
    let new = c.resume_with_memory-turned.new in
    let (r, leaves) = c.resume_with_memory-turned.ensures.leaves (from g at) (stands_with_memory (lent g at) c.in-Some.memory c.in-Some.is) holds in
    went_there (lent g at) c.args.slice new.memory new.ticket.globals new.memory.marks r
    (subst (λ (x : MemoryContents). LeavesFrom config.pages (module_tree valid) (whole valid (terms_of c.limits_of-limits.result c.args.request.now) call self.ticket.value.args (from g at)) call.turns (upto call c.args.slice)
    (parts x holds entries self.ticket.value.globals) (parts new.memory holds entries new.ticket.globals) new.memory.marks r)
    (ap (λ (o : Option (Lease MemoryContents)). memory_in o) (sym c.in-Some.is)) leaves)

-- ---- without one

pub resume_without_memory-turned-requires-clause-stands : goal.resume_without_memory-turned-requires-clause-stands
resume_without_memory-turned-requires-clause-stands g c =
    let at = (goal.at.resume_without_memory-turned-requires-clause-stands g c).After-entries_of-table in
    (from g at, stands_without_memory (lent g at) c.in-None.is)

pub returns-in-None-clause-sliced : goal.returns-in-None-clause-sliced
returns-in-None-clause-sliced g c =
    let at = (goal.at.returns-in-None-clause-sliced g c).After-entries_of-table in
    let new = c.resume_without_memory-turned.new in
    let turned = turned_there (lent g at) c.args.slice c.resume_without_memory-turned.result _ new.answer (left g at (memory_in c.args.self.now.memory) new.ticket.globals)
    (shown_bare (lent g at) new.ticket.globals new.answer c.in-None.is)
    (c.resume_without_memory-turned.ensures.turned (from g at) (stands_without_memory (lent g at) c.in-None.is)) in
    sliced (comes_of g.N.Naming.config c.args.loaded.now.module.now.tree c.args.request.now c.args.call.now.function c.args.self.now.ticket.value.args) c.args.call.now c.args.slice _ c.resume_without_memory-turned.result _ c.keep-in-None.ensures turned

pub returns-in-None-clause-left : goal.returns-in-None-clause-left
returns-in-None-clause-left g c =
    let at = (goal.at.returns-in-None-clause-left g c).After-entries_of-table in
    let ran = c.resume_without_memory-turned in
    left_there (lent g at) ran.result (fuel_left ran.new.call) (ran.ensures.left (from g at) (stands_without_memory (lent g at) c.in-None.is))

pub returns-in-None-clause-paused : goal.returns-in-None-clause-paused
returns-in-None-clause-paused g c again =
    let at = (goal.at.returns-in-None-clause-paused g c).After-entries_of-table in
    let new = c.resume_without_memory-turned.new in
    let valid = c.valid-valid.result.now in
    paused_there (lent g at) new.call c.keep-in-None.new.answer _ refl refl c.requires.paused.memory
    (subst (λ (says : List ℕ). Stands valid (terms_of c.limits_of-limits.result c.args.request.now) (from g at) new.ticket.args new.call new.ticket.stacks (answer_set says (shown_store (module_tree valid) (left g at (memory_in c.args.self.now.memory) new.ticket.globals)))) (sym (c.keep-in-None.ensures ∙ kept_on c.resume_without_memory-turned.result new.answer again))
    (subst (λ (s : Store). Stands valid (terms_of c.limits_of-limits.result c.args.request.now) (from g at) new.ticket.args new.call new.ticket.stacks s)
    (shown_bare (lent g at) new.ticket.globals new.answer c.in-None.is)
    (c.resume_without_memory-turned.ensures.stands again (from g at) (stands_without_memory (lent g at) c.in-None.is))))

pub returns-in-None-clause-went : goal.returns-in-None-clause-went
returns-in-None-clause-went g c =
    let at = (goal.at.returns-in-None-clause-went g c).After-entries_of-table in
    let self = c.args.self.now in
    let memory = memory_in self.memory in
    let (r, leaves) = c.resume_without_memory-turned.ensures.leaves (from g at) (stands_without_memory (lent g at) c.in-None.is) memory (table_in self.table).holds in
    went_there (lent g at) c.args.slice memory c.resume_without_memory-turned.new.ticket.globals memory.marks r leaves
