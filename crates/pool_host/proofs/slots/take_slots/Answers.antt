use Rattle.std.proofs.Common.{ap, ◌∙◌, refl}
use Rattle.slot_words.specs.Passes.{trail}
use Rattle.pool_model.specs.Contents.{needs}
use Rattle.pool_model.specs.declared.kinds.Kind.TheVariants.{Instance, Memory, Table}
use Rattle.instance_calls.specs.Parts.{memory_slot}
use Rattle.pool_host.specs.Kinds.{IsFullTakeOf, IsGiveOf, IsTakeOf}
use Rattle.pool_host.proofs.VisitLemmas.{grew_from, grew_to, memory_slot_some, nothing_if, served, turned_away, visited}
use Rattle.pool_host.proofs.slots.take_slots.Goals as goal

pub returns-in_default-clause-trails : goal.returns-in_default-clause-trails
returns-in_default-clause-trails g c =
    let config = g.N.Naming.config in
    let host = c.args.host.now in
    let m = c.args.loaded.now.module.now in record {
      ticket = c.in_default.ensures.full.1;
      memory = nothing_if (IsTakeOf Memory host.memories m) (IsGiveOf Memory host.memories m config.batch) (IsFullTakeOf Memory host.memories m) (needs Memory m.tree) _ _ refl;
      table = nothing_if (IsTakeOf Table host.tables m) (IsGiveOf Table host.tables m config.batch) (IsFullTakeOf Table host.tables m) (needs Table m.tree) _ _ refl;
    }

pub returns-in_default-clause-full : goal.returns-in_default-clause-full
returns-in_default-clause-full g c = let met = c.in_default.ensures in record { needed_is = refl; full = met.full.1; others = met.another }

pub returns-in_default-take_memory-clause-trails : goal.returns-in_default-take_memory-clause-trails
returns-in_default-take_memory-clause-trails g c =
    let config = g.N.Naming.config in
    let host = c.args.host.now in
    let m = c.args.loaded.now.module.now in
    let full = c.in_default-take_memory.ensures.full in
    let back = c.give_ticket.ensures.others in record {
      ticket = served (IsTakeOf Instance host.tickets m) (IsGiveOf Instance host.tickets m config.batch) (IsFullTakeOf Instance host.tickets m) _ _ _ _ _ c.in-Ok.ensures.trail (c.give_ticket.ensures.gave m);
      memory = grew_to _ _ _ _ (turned_away (IsTakeOf Memory host.memories m) (IsGiveOf Memory host.memories m config.batch) (IsFullTakeOf Memory host.memories m) (needs Memory m.tree) _ _ full.needed_is full.full)
          (ap (λ p. trail p.memory) back);
      table = nothing_if (IsTakeOf Table host.tables m) (IsGiveOf Table host.tables m config.batch) (IsFullTakeOf Table host.tables m) (needs Table m.tree) _ _ (ap (λ p. trail p.table) back);
    }

pub returns-in_default-take_memory-clause-counted : goal.returns-in_default-take_memory-clause-counted
returns-in_default-take_memory-clause-counted g c = λ was. c.give_ticket.ensures.counted (c.take_memory.ensures.counted was)

pub returns-in_default-take_table-clause-counted : goal.returns-in_default-take_table-clause-counted
returns-in_default-take_table-clause-counted g c = λ was. c.give_ticket-in_default-take_table.ensures.counted (c.give_memory.ensures.counted (c.take_memory.ensures.counted was))

pub returns-in_default-take_table-clause-trails : goal.returns-in_default-take_table-clause-trails
returns-in_default-take_table-clause-trails g c =
    let config = g.N.Naming.config in
    let host = c.args.host.now in
    let m = c.args.loaded.now.module.now in
    let full = c.in_default-take_table.ensures.full in
    let memory = c.in-Ok-take_memory in
    let first = c.give_memory.ensures.others in
    let then = c.give_ticket-in_default-take_table.ensures.others in record {
      ticket = served (IsTakeOf Instance host.tickets m) (IsGiveOf Instance host.tickets m config.batch) (IsFullTakeOf Instance host.tickets m) _ _ _ _ _ c.in-Ok.ensures.trail
          (grew_from _ _ _ _ (c.give_ticket-in_default-take_table.ensures.gave m) (ap (λ p. trail p.ticket) first));
      memory = grew_to _ _ _ _ (visited (IsTakeOf Memory host.memories m) (IsGiveOf Memory host.memories m config.batch) (IsFullTakeOf Memory host.memories m) (memory_slot memory.memory) (needs Memory m.tree) _ _ _
          (memory_slot_some memory.memory _ memory.ensures.fresh.had) memory.ensures.took (rw c.of_call.ensures at (c.give_memory.ensures.gave m (rw c.of_call.ensures memory.ensures.belongs)))) (ap (λ p. trail p.memory) then);
      table = grew_to _ _ _ _ (turned_away (IsTakeOf Table host.tables m) (IsGiveOf Table host.tables m config.batch) (IsFullTakeOf Table host.tables m) (needs Table m.tree) _ _ full.needed_is full.full)
          (ap (λ p. trail p.table) then ∙ ap (λ p. trail p.table) first);
    }

pub returns-clause-counted : goal.returns-clause-counted
returns-clause-counted g c = λ was. c.take_memory.ensures.counted was

pub returns-clause-have : goal.returns-clause-have
returns-clause-have g c =
    let ticket = c.in-Ok.ensures in
    let memory = c.in-Ok-take_memory.ensures in
    let table = c.in-Ok-take_table.ensures in record {
      ticket = (ticket.holds, ticket.number);
      memory = memory.has;
      table = table.has;
      memory_belongs = memory.belongs;
      table_belongs = table.belongs;
    }

pub returns-clause-fresh : goal.returns-clause-fresh
returns-clause-fresh g c = record { globals = c.in-Ok.ensures.globals; memory = c.in-Ok-take_memory.ensures.fresh; table = c.in-Ok-take_table.ensures.fresh }

pub returns-clause-took : goal.returns-clause-took
returns-clause-took g c = record { ticket = c.in-Ok.ensures.trail; memory = c.in-Ok-take_memory.ensures.took; table = c.in-Ok-take_table.ensures.took }
