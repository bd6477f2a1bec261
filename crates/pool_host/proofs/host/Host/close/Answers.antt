use Rattle.std.specs.Prelude.{length}
use Rattle.pool_host.specs.Closing.{memory_trails, table_trails, ticket_trails}
use Rattle.pool_host.proofs.ClosingLemmas.{counts_of}
use Rattle.pool_host.proofs.host.Host.close.Goals as goal

pub returns : goal.returns
returns g c = let host = c.args.self in let items = c.args.passes.items in let all = c.join_all-ticket.ensures in let joined = c.join_all-ticket.result in
    let i = c.close-instance in let m = c.close-memory in let t = c.close-table in record {
      instance = counts_of host.tickets joined.ticket (length items) (ticket_trails items) i.result all.shares.ticket all.ticket i.ensures.counts i.ensures.joined i.ensures.held;
      memory = counts_of host.memories joined.memory (length items) (memory_trails items) m.result all.shares.memory all.memory m.ensures.counts m.ensures.joined m.ensures.held;
      table = counts_of host.tables joined.table (length items) (table_trails items) t.result all.shares.table all.table t.ensures.counts t.ensures.joined t.ensures.held;
    }
