use Rattle.std.proofs.Common.{ap, ◌∙◌}
use Rattle.slot_words.specs.Passes.{trail}
use Rattle.pool_host.proofs.VisitLemmas.{grew_from, grew_to}
use Rattle.pool_host.proofs.ended_call.EndedCall.give.Goals as goal

pub returns-clause-gave : goal.returns-clause-gave
returns-clause-gave g c = λ m have.
    let table = c.give_table.ensures.others in
    let memory = c.give_memory.ensures.others in
    let ticket = c.give_ticket.ensures.others in record {
      ticket = grew_from _ _ _ _ (c.give_ticket.ensures.gave m) (ap (λ p. trail p.ticket) memory ∙ ap (λ p. trail p.ticket) table);
      memory = grew_to _ _ _ _ (grew_from _ _ _ _ (c.give_memory.ensures.gave m have.memory_belongs) (ap (λ p. trail p.memory) table)) (ap (λ p. trail p.memory) ticket);
      table = grew_to _ _ _ _ (c.give_table.ensures.gave m have.table_belongs) (ap (λ p. trail p.table) ticket ∙ ap (λ p. trail p.table) memory);
    }

pub returns-clause-counted : goal.returns-clause-counted
returns-clause-counted g c = λ was. c.give_ticket.ensures.counted (c.give_memory.ensures.counted (c.give_table.ensures.counted was))
