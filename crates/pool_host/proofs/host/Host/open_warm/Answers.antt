use Rattle.std.proofs.Common.{◌∙◌, sym}
use Rattle.pool_host.proofs.StartLemmas.{are_own}
use Rattle.pool_host.proofs.host.Host.open_warm.Goals as goal

pub deal-requires-clause-memories : goal.deal-requires-clause-memories
deal-requires-clause-memories g c = let opened = c.in_ok-memories.ensures.passes in (opened.0 ∙ sym c.in_ok-tickets.ensures.passes.0, opened.1)

pub deal-requires-clause-tables : goal.deal-requires-clause-tables
deal-requires-clause-tables g c = let opened = c.in_ok-tables.ensures.passes in (opened.0 ∙ sym c.in_ok-tickets.ensures.passes.0, opened.1)

pub deal-requires-clause-tags : goal.deal-requires-clause-tags
deal-requires-clause-tags g c = let opened = c.in_ok-retired.ensures.passes in (opened.0 ∙ sym c.in_ok-tickets.ensures.passes.0, opened.1)

pub returns-clause-share : goal.returns-clause-share
returns-clause-share g c =
    let tickets = c.in_ok-tickets.ensures in
    let memories = c.in_ok-memories.ensures in
    let tables = c.in_ok-tables.ensures in record {
      of_tickets = tickets.slots;
      of_memories = memories.slots;
      of_tables = tables.slots;
      warm_tickets = tickets.limit;
      warm_memories = memories.limit;
      warm_tables = tables.limit;
    }

pub returns-clause-own : goal.returns-clause-own
returns-clause-own g c = are_own _ _ c.in_ok-all.ensures.passes
