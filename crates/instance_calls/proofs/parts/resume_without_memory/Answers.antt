use Rattle.std.proofs.Common.{◌≡◌, ◌∙◌, ◌++◌, List, length, take, drop, rules, ap, sym, subst}
use Rattle.wasm_types.specs.declared.types.Limits.{Limits}
use Rattle.wasm_types.specs.declared.module.Module.{Module}
use Rattle.wasm_values.specs.declared.outcome.Val.{Val}
use Rattle.wasm_spec.specs.Execution.{Terms}
use Rattle.wasm_spec.specs.Instances.{room_for}
use Rattle.wasm_spec.specs.Store.{Store}
use Rattle.linear_memory.specs.Bytes.{IsMemory}
use Rattle.wasm_machine.specs.Lent.{run_store, run_terms}
use Rattle.wasm_machine.specs.TypedConfiguration.{IsTypedStore}
use Rattle.instance_slots.specs.Tickets.{TicketView}
use Rattle.paused_call.specs.Fuel.{fuel_left}
use Rattle.paused_call.specs.Standing.{Stands, Went, upto, whole}
use Rattle.instance_calls.specs.Instances.{bare_store}
use Rattle.instance_calls.proofs.InstanceLemmas.{bare_is, leaves_bare_from, written_back}
use Rattle.instance_calls.proofs.PausedLemmas.{leaves_same, left_same, stands_same, turned_same}
use Rattle.instance_calls.proofs.parts.resume_without_memory.Given.{Over}
use Rattle.instance_calls.proofs.parts.resume_without_memory.Goals as goal
use Rattle.instance_calls.proofs.parts.resume_without_memory.Goals.{After-resume}

-- ---- what the ticket lends, and what it is left with

module _ (g : Over) (c : After-resume g) where
  abbrev m : Module
  m = c.args.inputs.now.valid.now

  abbrev limits : Terms
  limits = run_terms c.args.inputs.now

  abbrev left : List Val
  left = take c.ticket.inside.globals.len (c.resume.new.globals ++ drop (length c.resume.new.globals) c.ticket.inside.globals.items)

  -- the stores that are lent and left, without their memory of no bytes
  abbrev bare_lent : Store
  bare_lent = bare_store m c.args.inputs.now.table.now c.deref_mut.result.now c.args.answer.now

  abbrev bare_left : Store
  bare_left = bare_store m c.args.inputs.now.table.now c.resume.new.globals c.resume.new.answer

  -- what is lent is the ticket's, and what it is left with is written back
  lent : (c.deref_mut.result.now ≡ c.args.ticket.now.globals) × (c.resume.new.globals ≡ left) × (c.deref.result.now ≡ c.args.ticket.now.args)
  lent = (
    search rules,
    written_back c.ticket.inside.globals.len c.resume.new.globals (drop (length c.resume.new.globals) c.ticket.inside.globals.items) (c.resume.ensures.globals ∙ c.deref_mut.ensures.len),
    c.deref.ensures.value ∙ ap (λ (t : TicketView). t.args) c.ticket.view_is,
  )

  lent_bare : run_store c.args.inputs.now c.ticket.inside.memory c.deref_mut.result.now c.args.answer.now ≡ bare_lent
  lent_bare = bare_is m c.ticket.inside.memory c.args.inputs.now.table.now c.deref_mut.result.now c.args.answer.now c.ticket.invariant.no_bytes

  module _ (begun : Store) (h : Stands m limits begun c.args.ticket.now.args c.args.call.now c.args.ticket.now.stacks (bare_store m c.args.inputs.now.table.now c.args.ticket.now.globals c.args.answer.now)) where
    stands_lent : Stands m limits begun c.deref.result.now c.args.call.now c.ticket.inside.stacks (run_store c.args.inputs.now c.ticket.inside.memory c.deref_mut.result.now c.args.answer.now)
    stands_lent =
        stands_same m limits begun c.args.call.now _ _ _ _ _ _ (sym lent.2) (ap (λ (t : TicketView). t.stacks) (sym c.ticket.view_is))
        (ap (λ (xs : List Val). bare_store m c.args.inputs.now.table.now xs c.args.answer.now) (sym lent.0) ∙ sym lent_bare) h

    abbrev went : Went m (whole m limits c.args.call.now c.deref.result.now begun) c.args.call.now.turns (upto c.args.call.now c.args.slice) c.ticket.inside.memory c.resume.new.memory
        (run_store c.args.inputs.now c.resume.new.memory c.resume.new.globals c.resume.new.answer)
    went = c.resume.ensures.went begun stands_lent

    no_bytes : length c.resume.new.memory.bytes.items ≡ 0
    no_bytes = went.marks.changes.room.bytes ∙ c.ticket.invariant.no_bytes

    left_bare : run_store c.args.inputs.now c.resume.new.memory c.resume.new.globals c.resume.new.answer ≡ bare_left
    left_bare = bare_is m c.resume.new.memory c.args.inputs.now.table.now c.resume.new.globals c.resume.new.answer no_bytes

    store_left : run_store c.args.inputs.now c.resume.new.memory c.resume.new.globals c.resume.new.answer ≡ bare_store m c.args.inputs.now.table.now left c.resume.new.answer
    store_left = left_bare ∙ ap (λ (xs : List Val). bare_store m c.args.inputs.now.table.now xs c.resume.new.answer) lent.1

    end_left : went.at.store ≡ bare_left
    end_left = went.shows ∙ left_bare

    typed_lent : IsTypedStore m bare_lent
    typed_lent = subst (IsTypedStore m) lent_bare stands_lent.typed

-- ---- the clauses

pub invariant_of-ticket : goal.invariant_of-ticket
invariant_of-ticket g c =
    let at = (goal.at.invariant_of-ticket g c).After-resume in
    let (begun, h) = c.requires.stands in
    record {
      globals_are = ap length (sym (lent g at).1) ∙ c.resume.ensures.globals ∙ ap length (lent g at).0 ∙ ap (λ (t : TicketView). length t.globals) (sym c.ticket.view_is) ∙ c.ticket.invariant.globals_are;
      args_fit = c.ticket.invariant.args_fit;
      imports_fit = c.ticket.invariant.imports_fit;
      stacks_are = c.resume.ensures.stacks ∙ c.ticket.invariant.stacks_are;
      deep = c.ticket.invariant.deep;
      memory_is = subst (λ (ms : List Limits). IsMemory (room_for ms c.args.inputs.now.limits.pages) c.resume.new.memory) c.requires.none c.resume.ensures.memory;
      no_bytes = no_bytes g at begun h;
    }

pub returns-clause-turned : goal.returns-clause-turned
returns-clause-turned g c begun h =
    let at = (goal.at.returns-clause-turned g c).After-resume in
    turned_same (m g at) (limits g at) begun c.args.call.now c.args.slice c.resume.result _ _ _ _ (lent g at).2 (store_left g at begun h) (c.resume.ensures.turned begun (stands_lent g at begun h))

pub returns-clause-left : goal.returns-clause-left
returns-clause-left g c begun h =
    let at = (goal.at.returns-clause-left g c).After-resume in
    left_same (m g at) (limits g at) begun c.args.call.now c.resume.result (fuel_left c.resume.new.self) _ _ (lent g at).2 (c.resume.ensures.left begun (stands_lent g at begun h))

pub returns-clause-stands : goal.returns-clause-stands
returns-clause-stands g c again begun h =
    let at = (goal.at.returns-clause-stands g c).After-resume in
    stands_same (m g at) (limits g at) begun c.resume.new.self _ _ _ _ _ _ c.deref.ensures.value (λ i. c.resume.new.stacks) (store_left g at begun h) (c.resume.ensures.stands again begun (stands_lent g at begun h))

pub returns-clause-leaves : goal.returns-clause-leaves
returns-clause-leaves g c begun h x owner =
    let at = (goal.at.returns-clause-leaves g c).After-resume in
    let pages = g.N.Naming.config.pages in
    let call = c.args.call.now in
    let end = (went g at begun h).at in (
      end,
      leaves_same (m g at) (limits g at) begun call pages c.args.slice x x owner c.args.inputs.now.table.now x.marks end _ _ _ _ _ _ (lent g at).2 (lent g at).0 (lent g at).1
          (leaves_bare_from pages (m g at) x owner c.args.inputs.now.table.now c.deref_mut.result.now c.resume.new.globals c.requires.none (whole (m g at) (limits g at) call c.deref.result.now begun) call.turns (upto call c.args.slice)
          end c.args.answer.now c.resume.new.answer (typed_lent g at begun h) c.resume.ensures.globals c.resume.ensures.others (went g at begun h).gives (end_left g at begun h)),
    )
