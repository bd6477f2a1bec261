use Rattle.std.proofs.Common.{◌≡◌, ◌∷◌, ◌++◌, [], rules}
use Rattle.std.proofs.lemmas.List.Elements.{All-pop}
use Rattle.slot_words.specs.Passes.{trails}
use Rattle.pool_host.specs.Closing.{memory_done, memory_trails, table_done, table_trails, ticket_done, ticket_trails}
use Rattle.pool_host.specs.Hosts.{IsHostPass}
use Rattle.pool_host.proofs.ClosingLemmas.{joined_next, last_first}
use Rattle.pool_host.proofs.IdleLemmas.{rests_idle}
use Rattle.pool_host.proofs.counts.join_all.Goals as goal

pub loop-other-init : goal.loop-other-init
loop-other-init g c =
    let items = c.args.passes.items in
    let left = c.pop.new.self.items in
    let first = c.unwrap-joined.result in
    let popped = All-pop (IsHostPass c.args.host.now) items left c.pop.result c.pop.ensures.items c.requires.own in
    let last : items ≡ left ++ first ∷ [] = rw c.unwrap-joined.ensures at c.pop.ensures.items in
    record {
      own = (rw c.unwrap-joined.ensures at popped.1).pools;
      idle = record {
        ticket = rests_idle first.passes.ticket first.rests_ticket;
        memory = rests_idle first.passes.memory first.rests_memory;
        table = rests_idle first.passes.table first.rests_table;
      };
      rest = popped.0;
      ticket_share = search rules;
      memory_share = search rules;
      table_share = search rules;
      ticket = last_first ticket_done items left first last;
      memory = last_first memory_done items left first last;
      table = last_first table_done items left first last;
    }

pub join-requires-clause-other : goal.join-requires-clause-other
join-requires-clause-other g c =
    let popped = All-pop (IsHostPass c.args.host.now) c.loop-other.passes.items c.pop-in-loop-other.new.self.items c.pop-in-loop-other.result c.pop-in-loop-other.ensures.items c.loop-other.invariant.rest in
    rw c.in-Some.is at popped.1

pub loop-other-preserved : goal.loop-other-preserved
loop-other-preserved g c =
    let i = c.loop-other.invariant in
    let items = c.loop-other.passes.items in
    let left = c.pop-in-loop-other.new.self.items in
    let other = c.in-Some.other in
    let joined = c.join.ensures.joined in
    let popped = All-pop (IsHostPass c.args.host.now) items left c.pop-in-loop-other.result c.pop-in-loop-other.ensures.items i.rest in
    let last : items ≡ left ++ other ∷ [] = rw c.in-Some.is at c.pop-in-loop-other.ensures.items in
    record {
      own = c.join.ensures.own;
      idle = c.join.ensures.idle;
      rest = popped.0;
      ticket_share = search rules;
      memory_share = search rules;
      table_share = search rules;
      ticket = joined_next ticket_done items left other (trails c.loop-other.joined.ticket) (trails c.join.new.joined.ticket) (ticket_trails c.args.passes.items) last joined.ticket.done i.ticket;
      memory = joined_next memory_done items left other (trails c.loop-other.joined.memory) (trails c.join.new.joined.memory) (memory_trails c.args.passes.items) last joined.memory.done i.memory;
      table = joined_next table_done items left other (trails c.loop-other.joined.table) (trails c.join.new.joined.table) (table_trails c.args.passes.items) last joined.table.done i.table;
    }
