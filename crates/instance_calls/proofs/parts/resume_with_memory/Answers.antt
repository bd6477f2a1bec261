use Rattle.std.proofs.Common.{◌≡◌, ◌∙◌, ◌++◌, List, length, take, drop, rules, ap, sym}
use Rattle.wasm_types.specs.declared.module.Module.{Module}
use Rattle.wasm_values.specs.declared.outcome.Val.{Val}
use Rattle.wasm_spec.specs.Execution.{Terms}
use Rattle.wasm_spec.specs.Store.{Store}
use Rattle.wasm_machine.specs.Lent.{run_terms}
use Rattle.instance_slots.specs.Tickets.{TicketView}
use Rattle.memory_slots.specs.Lent.{store_in}
use Rattle.paused_call.specs.Fuel.{fuel_left}
use Rattle.paused_call.specs.Standing.{Stands}
use Rattle.instance_calls.proofs.InstanceLemmas.{written_back}
use Rattle.instance_calls.proofs.PausedLemmas.{leaves_same, left_same, stands_same, turned_same}
use Rattle.instance_calls.proofs.parts.resume_with_memory.Given.{Over}
use Rattle.instance_calls.proofs.parts.resume_with_memory.Goals as goal
use Rattle.instance_calls.proofs.parts.resume_with_memory.Goals.{After-resume}

-- ---- what the ticket lends, and what it is left with

module _ (g : Over) (c : After-resume g) where
  abbrev m : Module
  m = c.args.inputs.now.valid.now

  abbrev limits : Terms
  limits = run_terms c.args.inputs.now

  abbrev left : List Val
  left = take c.ticket.inside.globals.len (c.resume.new.globals ++ drop (length c.resume.new.globals) c.ticket.inside.globals.items)

  globals_lent : c.deref_mut.result.now ≡ c.args.ticket.now.globals
  globals_lent = search rules

  globals_left : c.resume.new.globals ≡ left
  globals_left = written_back c.ticket.inside.globals.len c.resume.new.globals (drop (length c.resume.new.globals) c.ticket.inside.globals.items) (c.resume.ensures.globals ∙ c.deref_mut.ensures.len)

  args_lent : c.deref.result.now ≡ c.args.ticket.now.args
  args_lent = c.deref.ensures.value ∙ ap (λ (t : TicketView). t.args) c.ticket.view_is

  stands_lent : (begun : Store) → Stands m limits begun c.args.ticket.now.args c.args.call.now c.args.ticket.now.stacks (store_in m c.args.memory.now c.args.inputs.now.table.now c.args.ticket.now.globals c.args.answer.now)
      → Stands m limits begun c.deref.result.now c.args.call.now c.ticket.inside.stacks (store_in m c.args.memory.now c.args.inputs.now.table.now c.deref_mut.result.now c.args.answer.now)
  stands_lent begun h =
      stands_same m limits begun c.args.call.now _ _ _ _ _ _ (sym args_lent) (ap (λ (t : TicketView). t.stacks) (sym c.ticket.view_is))
      (ap (λ (xs : List Val). store_in m c.args.memory.now c.args.inputs.now.table.now xs c.args.answer.now) (sym globals_lent)) h

  store_left : store_in m c.resume.new.self c.args.inputs.now.table.now c.resume.new.globals c.resume.new.answer ≡ store_in m c.resume.new.self c.args.inputs.now.table.now left c.resume.new.answer
  store_left = ap (λ (xs : List Val). store_in m c.resume.new.self c.args.inputs.now.table.now xs c.resume.new.answer) globals_left

-- ---- the clauses

pub returns-clause-turned : goal.returns-clause-turned
returns-clause-turned g c begun h =
    let at = (goal.at.returns-clause-turned g c).After-resume in
    turned_same (m g at) (limits g at) begun c.args.call.now c.args.slice c.resume.result _ _ _ _ (args_lent g at) (store_left g at) (c.resume.ensures.turned begun (stands_lent g at begun h))

pub returns-clause-left : goal.returns-clause-left
returns-clause-left g c begun h =
    let at = (goal.at.returns-clause-left g c).After-resume in
    left_same (m g at) (limits g at) begun c.args.call.now c.resume.result (fuel_left c.resume.new.call) _ _ (args_lent g at) (c.resume.ensures.left begun (stands_lent g at begun h))

pub returns-clause-stands : goal.returns-clause-stands
returns-clause-stands g c again begun h =
    let at = (goal.at.returns-clause-stands g c).After-resume in
    stands_same (m g at) (limits g at) begun c.resume.new.call _ _ _ _ _ _ c.deref.ensures.value (λ i. c.resume.new.stacks) (store_left g at) (c.resume.ensures.stands again begun (stands_lent g at begun h))

pub returns-clause-leaves : goal.returns-clause-leaves
returns-clause-leaves g c begun h owner =
    let at = (goal.at.returns-clause-leaves g c).After-resume in
    let (r, leaves) = c.resume.ensures.leaves begun (stands_lent g at begun h) owner in
    (r, leaves_same (m g at) (limits g at) begun c.args.call.now g.N.Naming.config.pages c.args.slice c.args.memory.now c.resume.new.self owner c.args.inputs.now.table.now c.resume.new.self.marks r _ _ _ _ _ _ (args_lent g at) (globals_lent g at) (globals_left g at) leaves)
